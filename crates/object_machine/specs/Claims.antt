-- The claims on a machine of a checked program (docs/theorem.md): in each run from where it stands, whatever events come and
-- whatever natives answer, each step is so. Of a machine that has stopped they say nothing.
use Rattle.std.specs.Prelude.{◌≤◌, length}
use Rattle.machine_rules.specs.Good.{HasArguments, Spares, IsAcyclic, AreSettled, IsTyped}
use Rattle.machine_rules.specs.Natives.{NativeAnswers}
use Rattle.object_machine.specs.Seen.{Seen, InEachRun}

-- all claims
pub record Claims {N : Type 0} (gives : N → NativeAnswers) (m : Seen N) : Type 0 where
  -- every call that is delivered has the arguments that its method declares
  pub arguments : InEachRun gives m (HasArguments m.program)
  -- no binding depends on itself
  pub acyclic : InEachRun gives m (λ s t. IsAcyclic t)
  -- no object dies while a body of its own is active
  pub spared : InEachRun gives m Spares
  -- activations never nest deeper than the depth, which is the certificate's bound
  pub shallow : InEachRun gives m (λ s t. length t.stack ≤ m.depth)
  -- no expression lacks a value, no condition a truth value, and no property has or is given a value of another type
  pub typed : InEachRun gives m (λ s t. IsTyped m.program t)
  -- each bound property has the value of its binding's expression
  pub settled : InEachRun gives m (λ s t. AreSettled t)

-- ---- each by itself, for the clauses of a machine

abbrev pub HasItsArguments : {N : Type 0} → (N → NativeAnswers) → Seen N → Type 0
HasItsArguments gives m = InEachRun gives m (HasArguments m.program)

abbrev pub IsEverAcyclic : {N : Type 0} → (N → NativeAnswers) → Seen N → Type 0
IsEverAcyclic gives m = InEachRun gives m (λ s t. IsAcyclic t)

abbrev pub SparesActive : {N : Type 0} → (N → NativeAnswers) → Seen N → Type 0
SparesActive gives m = InEachRun gives m Spares

abbrev pub IsEverShallow : {N : Type 0} → (N → NativeAnswers) → Seen N → Type 0
IsEverShallow gives m = InEachRun gives m (λ s t. length t.stack ≤ m.depth)

abbrev pub IsEverTyped : {N : Type 0} → (N → NativeAnswers) → Seen N → Type 0
IsEverTyped gives m = InEachRun gives m (λ s t. IsTyped m.program t)

abbrev pub IsEverSettled : {N : Type 0} → (N → NativeAnswers) → Seen N → Type 0
IsEverSettled gives m = InEachRun gives m (λ s t. AreSettled t)
