-- A machine that contracts see as it is.
use Rattle.std.proofs.Common.{◌≡◌, refl, subst}
use Rattle.native_slots.specs.Promises.{Takes}
use Rattle.machine_rules.specs.Natives.{NativeAnswers}
use Rattle.object_machine.specs.Seen.{Seen}
use Rattle.trace_tool.specs.Outcomes.{seen_outcome}
use Rattle.trace_tool.specs.declared.any_machine.outcome.Outcome.{Outcome}
use Rattle.trace_tool.specs.declared.any_machine.outcome.Outcome.TheVariants.{Usage, NoInput, Program, Ran, Memory}
use Rattle.trace_tool.specs.Prepared.{ComesOf, Prepares}
use Rattle.trace_tool.specs.declared.any_machine.prepared.Prepared.{Prepared}

seen-itself : {S : Type 0} (outcome : Outcome S) → seen_outcome (λ m. m) outcome ≡ outcome
seen-itself (Usage fault) = refl
seen-itself (NoInput fault) = refl
seen-itself (Program outcome) = refl
seen-itself (Ran ran) = refl
seen-itself Memory = refl

-- what it was prepared for is what it came to
pub comes-itself : {N : Type 0} {takes : N → Takes} {gives : N → NativeAnswers} {ComesTo : Outcome (Seen N) → Type 0} {prepared : Prepared (Seen N)} {outcome : Outcome (Seen N)} → Prepares takes gives ComesTo prepared →
    ComesOf gives prepared (seen_outcome (λ m. m) outcome) → ComesTo outcome
comes-itself {ComesTo = ComesTo} {outcome = outcome} prepares came = subst ComesTo (seen-itself outcome) (prepares.comes _ came)
