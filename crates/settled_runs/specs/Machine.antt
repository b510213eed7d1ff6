-- The claims on a machine of a program with a valid settling certificate (docs/settling.md, "The run"): in each run from where it
-- stands, whatever events come and whatever natives answer, each step is so. Those on arguments, bindings, deaths, types and values
-- of bindings are those on a machine of a checked program (`object_machine`'s page Claims).
use Rattle.std.specs.Prelude.{◌≤◌, List, [], length}
use Rattle.script_lang.specs.declared.event.Event.{Event}
use Rattle.trace_entries.specs.declared.fault.Fault.{Fault}
use Rattle.settling.specs.declared.certificate.SettlingCertificate.{SettlingCertificate}
use Rattle.machine_state.specs.Worlds.{at}
use Rattle.machine_rules.specs.Natives.{NativeAnswers}
use Rattle.object_machine.specs.{Claims.{HasItsArguments, IsEverAcyclic, SparesActive, IsEverTyped, IsEverSettled}, Seen.{Seen, InEachRun, Halts}}
use Rattle.settled_runs.specs.Claims.{most_deep, CarriesOne, ChangesToCarried, IsLimitAt}

-- activations nest no deeper than the bound, and the step for each object that was made
abbrev pub IsEverShallow : {N : Type 0} → (N → NativeAnswers) → SettlingCertificate → Seen N → Type 0
IsEverShallow gives certificate m = InEachRun gives m (λ s t. length t.stack ≤ most_deep certificate t)

-- activations of one set carry one value
abbrev pub EverCarriesOne : {N : Type 0} → (N → NativeAnswers) → SettlingCertificate → Seen N → Type 0
EverCarriesOne gives certificate m = InEachRun gives m (λ s t. CarriesOne m.program certificate t)

-- no place of a set of which something is active comes to read otherwise than what the set carries
abbrev pub EverChangesToCarried : {N : Type 0} → (N → NativeAnswers) → SettlingCertificate → Seen N → Type 0
EverChangesToCarried gives certificate m = InEachRun gives m (λ s t. ChangesToCarried m.program certificate s t)

-- it stops for a limit, or because its depth is less than the bound, and the step for each object that was made by then
abbrev pub StopsAtLimitAlone : {N : Type 0} → (N → NativeAnswers) → SettlingCertificate → Seen N → Type 0
StopsAtLimitAlone {N} gives certificate m =
    (events : List Event) (fault : Fault) (after : Seen N) → Halts gives m events fault after → IsLimitAt certificate m.depth (at after.world []) fault

-- all claims
pub record SettlingClaims {N : Type 0} (gives : N → NativeAnswers) (certificate : SettlingCertificate) (m : Seen N) : Type 0 where
  pub arguments : HasItsArguments gives m
  pub acyclic : IsEverAcyclic gives m
  pub spared : SparesActive gives m
  pub shallow : IsEverShallow gives certificate m
  pub typed : IsEverTyped gives m
  pub settled : IsEverSettled gives m
  pub carries : EverCarriesOne gives certificate m
  pub changes : EverChangesToCarried gives certificate m
  pub stops : StopsAtLimitAlone gives certificate m
