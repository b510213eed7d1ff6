-- Judgements, step by step.
use Rattle.std.proofs.Common.{◌≡◌, Result, Ok, Err, refl, sym, subst}
use Rattle.std.specs.Prelude.{IfErr}
use Rattle.std.specs.Result.{IsErrAnd}
use Rattle.trace_entries.specs.declared.refusal.Refusal.{Refusal}
use Rattle.object_machine.specs.declared.not_accepted.NotAccepted.{NotAccepted}
use Rattle.object_machine.specs.declared.not_accepted.NotAccepted.TheVariants.{Memory}
use Rattle.machine_rules.specs.Judgement.{Gives, gives, Then, goes_on, ends}
use Rattle.object_machine.specs.code.Judgement.{IsNotAccepted, refused, short}

-- what is given is what was to be given
pub given-is : {X : Type 0} {x y : X} → Gives x (Ok y) → y ≡ x
given-is gives = refl

-- where the first step ends, all ends
pub then-ends : {X Y : Type 0} {First : Result X Refusal → Type 0} {Next : X → Result Y Refusal → Type 0} {n : NotAccepted} → IsNotAccepted First n → IsNotAccepted (Then First Next) n
then-ends (refused x) = refused (ends x)
then-ends short = short

-- .. and where it gives something, the next one decides
pub then-on : {X Y : Type 0} {First : Result X Refusal → Type 0} {Next : X → Result Y Refusal → Type 0} {n : NotAccepted} (x : X) → First (Ok x) → IsNotAccepted (Next x) n → IsNotAccepted (Then First Next) n
then-on x first (refused next) = refused (goes_on x first next)
then-on x first short = short

-- behind a `?`
pub err-is : {X Y : Type 0} {Judged : Result Y Refusal → Type 0} {n : NotAccepted} (r : Result X NotAccepted) → IsNotAccepted Judged n → IsErrAnd r (λ y. y ≡ n) → IfErr r (λ y. IsNotAccepted Judged y)
err-is (Ok x) not is = absurd is
err-is {Judged = Judged} (Err y) not is = subst (λ (m : NotAccepted). IsNotAccepted Judged m) (sym is) not

-- .. where memory ran out
pub short-is : {X Y : Type 0} (Judged : Result Y Refusal → Type 0) (r : Result X NotAccepted) → IsErrAnd r (λ y. y ≡ Memory) → IfErr r (λ y. IsNotAccepted Judged y)
short-is Judged (Ok x) is = absurd is
short-is Judged (Err y) is = subst (λ (m : NotAccepted). IsNotAccepted Judged m) (sym is) short
