-- What the scheduling of a deletion comes to: nothing, or an item more.
use Rattle.std.proofs.Common.{◌≡◌, ◌⊎◌, inl, inr, ℕ, Bool, true, false, List, [], ◌∷◌, ◌++◌, length, Option, Some, None, if◌then◌else◌, refl, sym, ap, ◌∙◌, append-nil}
use Rattle.object_tree.specs.declared.life.Life.{Life}
use Rattle.object_tree.specs.Objects.{name_of}
use Rattle.delete_later.specs.Scheduling.{deferred_to, scheduled_with}
use Rattle.trace_entries.specs.declared.entry.Entry.{Entry}
use Rattle.trace_entries.specs.declared.entry.Entry.TheVariants.{At}
use Rattle.trace_entries.specs.declared.entry.EntryKind.TheVariants.{Scheduled}
use Rattle.machine_state.specs.State.{State, Activation}
use Rattle.machine_state.specs.Worlds.{store_of, with_store}
use Rattle.machine_rules.specs.Destroying.{TellsSchedule, scheduled_now, scheduled_before, not_living, Schedules}

-- the deletion of object x is appended to the items of this loop
abbrev pub deferred : State → List Activation → List ℕ → ℕ → ℕ → List ℕ → State
deferred s stack loop home x name = record (with_store s (deferred_to home x (store_of s))) {
  stack = stack;
  trace = s.trace ++ At (length stack) (Scheduled loop name) ∷ [];
}

pub record Defers (s : State) (stack : List Activation) (x : ℕ) (t : State) : Type 0 where
  pub home : ℕ
  pub loop : List ℕ
  pub name : List ℕ
  pub named : name_of s.objects x ≡ Some name
  pub gives : t ≡ deferred s stack loop home x name

-- what is left of a state whose trace took these entries, where the object is marked already, or isn't
abbrev marked-so : State → List Activation → ℕ → Life → List Entry → Bool → State
marked-so s stack x l lines b = record (with_store s (if b then store_of s else deferred_to l.home x (store_of s))) { stack = stack; trace = s.trace ++ lines }

abbrev traced : State → List Activation → List Entry → State
traced s stack entries = record s { stack = stack; trace = entries }

pub schedule-cases : {s t : State} {stack : List Activation} {x : ℕ} (life : Option Life) → Schedules s stack x t life → (t ≡ record s { stack = stack }) ⊎ Defers s stack x t
schedule-cases {s} {t} {stack} {x} life r = by_told life r.lines r.told r.gives
  where
    by_told : (there : Option Life) (lines : List Entry) → TellsSchedule s (length stack) x there lines → t ≡ record (with_store s (scheduled_with there x (store_of s))) { stack = stack; trace = s.trace ++ lines } → (t ≡ record s { stack = stack }) ⊎ Defers s stack x t
    by_told _ lines (scheduled_now {l = l} {loop = loop} {name = name} unmarked is_loop named) e =
        inr (record { home = l.home; loop = loop; name = name; named = named; gives = e ∙ ap (marked-so s stack x l (At (length stack) (Scheduled loop name) ∷ [])) unmarked })
    by_told _ lines (scheduled_before {l = l} marked) e = inl (e ∙ (ap (marked-so s stack x l []) marked ∙ ap (traced s stack) (append-nil s.trace)))
    by_told _ lines not_living e = inl (e ∙ ap (traced s stack) (append-nil s.trace))

-- a number of no living object changes nothing
pub schedules-none : {s : State} {stack : List Activation} {x : ℕ} → Schedules s stack x (record s { stack = stack }) None
schedules-none {s} {stack} = record { lines = []; told = not_living; gives = sym (ap (traced s stack) (append-nil s.trace)) }

-- nor does one that is scheduled already
pub schedules-before : {s : State} {stack : List Activation} {x : ℕ} {l : Life} → l.scheduled ≡ true → Schedules s stack x (record s { stack = stack }) (Some l)
schedules-before {s} {stack} {x} {l} marked =
    record { lines = []; told = scheduled_before marked; gives = sym (ap (marked-so s stack x l []) marked ∙ ap (traced s stack) (append-nil s.trace)) }

-- there is one list of entries
pub told-one : {s : State} {n x : ℕ} {life : Option Life} {ks ls : List Entry} → TellsSchedule s n x life ks → TellsSchedule s n x life ls → ks ≡ ls
told-one {n = n} (scheduled_now {loop = loop} {name = name} a b c) (scheduled_now {loop = other} {name = called} d e f) =
    let same_loop : Some loop ≡ Some other = sym b ∙ e in
    let same_name : Some name ≡ Some called = sym c ∙ f in
    let loops : loop ≡ other = cc same_loop in
    let names : name ≡ called = cc same_name in
    ap (λ (l : List ℕ). At n (Scheduled l name) ∷ []) loops ∙ ap (λ (k : List ℕ). At n (Scheduled other k) ∷ []) names
told-one (scheduled_now a b c) (scheduled_before d) = let no : true ≡ false = sym d ∙ a in absurd (cc no)
told-one (scheduled_before d) (scheduled_now a b c) = let no : true ≡ false = sym d ∙ a in absurd (cc no)
told-one (scheduled_before a) (scheduled_before b) = refl
told-one not_living not_living = refl
