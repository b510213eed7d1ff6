-- What goes to a writer by way of an output, which keeps bytes back until they are worth a write.
use Rattle.std.specs.Prelude.{◌≡◌, ℕ, List, [], ◌++◌, Option, None, Result, IfOk, OnOk, OnErr, IfNone, IsNone, IsSome, IsTrue}
use Rattle.std.specs.Io.KnownBytes.{Appends}
use Rattle.command_lines.specs.declared.output.Output.{Output}

-- What a writer took of these bytes by this answer: at `Ok` all of them, and else the first ones.
pub record Takes {A E : Type 0} (before after : Option (List ℕ)) (bytes : List ℕ) (result : Result A E) : Type 0 where
  pub taken : List ℕ
  pub left : List ℕ
  pub appended : Appends before after taken
  pub whole : taken ++ left ≡ bytes
  pub all : OnOk result (left ≡ [])

-- What a writer took of these bytes, where the answer, if there is one, is this exit status.
pub record TakesWith {E : Type 0} (before after : Option (List ℕ)) (bytes : List ℕ) (expected : ℕ) (result : Result ℕ E) : Type 0 where
  pub takes : Takes before after bytes result
  pub status : IfOk result (λ status. status ≡ expected)

-- an output into which nothing is put yet
pub record IsBegun {W : Type 0} (writer : W) (output : Output W (List ℕ)) : Type 0 where
  pub same : output.writer.now ≡ writer
  pub empty : output.pending ≡ []
  pub unfailed : output.fault ≡ None

-- an output has a fault only where a write failed
abbrev pub IsFlagged : {W : Type 0} → Output W (List ℕ) → Type 0
IsFlagged output = IsSome output.fault → IsTrue output.failing.is_set

module _ {W : Type 0} (contents : W → Option (List ℕ)) where
  -- These bytes are put into an output: of what it kept back, and then these, its writer took the first ones. While no
  -- write failed it keeps back the rest; after one that did, its writer takes nothing.
  pub record Puts (before after : Output W (List ℕ)) (bytes : List ℕ) : Type 0 where
    pub same_writer : after.writer.ghost_name ≡ before.writer.ghost_name
    pub taken : List ℕ
    pub left : List ℕ
    pub appended : Appends (contents before.writer.now) (contents after.writer.now) taken
    pub whole : taken ++ left ≡ before.pending ++ bytes
    pub kept : IfNone after.fault (after.pending ≡ left)
    pub stopped : IsSome before.fault → (taken ≡ []) × IsSome after.fault
    pub flagged : IsFlagged before → IsFlagged after

  -- All that an output kept back is written, with this exit status for an answer, or a write has failed.
  pub record Ends {E : Type 0} (before after : Output W (List ℕ)) (expected : ℕ) (result : Result ℕ E) : Type 0 where
    pub puts : Puts before after []
    pub all : OnOk result (IsNone after.fault × (after.pending ≡ []))
    pub status : IfOk result (λ status. status ≡ expected)
    pub faults : IsFlagged before → OnErr result (IsTrue after.failing.is_set)
