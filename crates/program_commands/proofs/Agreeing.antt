-- What is certified is agreed to.
use Rattle.std.proofs.Common.{◌≡◌, ◌≤◌, ℕ, List, Option, Some, None, Ok, refl, arith, sym, subst}
use Rattle.certificate_lang.specs.{declared.certificate.Certificate.{Certificate}, Texts.{certificate_text}}
use Rattle.program_commands.{proofs.Writable.{made_is_read}, specs.declared.outcome.Outcome.{Outcome}, specs.declared.outcome.Outcome.TheVariants.{Valid, Uncertified, Certificate as Certified}, specs.declared.refusal.Refusal.{Refusal}, specs.Commands.{CertifyComesTo, CheckComesTo, IsAgreed, CertifiedIsAgreed}, specs.Loading.{LoadsProgram, with_certificate}, specs.Outcomes.{outcome_status}, specs.Texts.{with_text}, specs.Reasons.{reason_status}, specs.Refusals.{refusal_status, status_of}, specs.Steps.{First, Is, fails, goes_on}, proofs.Stepping.{loads_of}}
use Rattle.class_lang.specs.declared.size.Limits.{Limits}
use Rattle.meta_model.specs.Loaded.{Loaded}
use Rattle.rank_make.specs.{Makes.{Makes}, declared.why.Why.{Why}}
use Rattle.rank_make.specs.declared.why.Why.TheVariants as why
use Rattle.program_commands.specs.declared.refusal.Refusal.TheVariants as refusal

some_status : (k : ℕ) (number : Option ℕ) → 1 ≤ k → ¬ (status_of k number ≡ 0)
some_status k (Some n) h e = omega (arith, h, e)
some_status k None h e = omega (arith, e)

refused_some : (r : Refusal) → ¬ (refusal_status r ≡ 0)
refused_some (refusal.Text fault) e = some_status 2 _ (omega arith) e
refused_some (refusal.Loading fault) e = some_status 2 _ (omega arith) e
refused_some (refusal.Certificate fault) e = some_status 2 _ (omega arith) e
refused_some (refusal.Script fault) e = some_status 2 _ (omega arith) e
refused_some (refusal.Check w) e = some_status 3 _ (omega arith) e
refused_some (refusal.Unsettled reason) e = some_status 3 _ (omega arith) e
refused_some (refusal.Natives fault) e = omega (arith, e)

reason_some : (w : Why) → ¬ (reason_status w ≡ 0)
reason_some (why.Wire place) e = omega arith
reason_some (why.BodyType found) e = omega arith
reason_some (why.Cycle nodes) e = omega arith
reason_some (why.DestroyPath nodes) e = omega arith
reason_some (why.TooHigh nodes) e = omega arith
reason_some why.Memory e = omega arith

agreed : (limits : Limits) (program : List ℕ) (loaded : Loaded) (certificate : Certificate) → LoadsProgram limits program (Ok loaded) → Makes loaded (Ok certificate) →
    CheckComesTo limits program (certificate_text certificate) (Valid (with_certificate loaded certificate))
agreed limits program loaded certificate steps makes =
    let loads = loads_of steps in
    let read = made_is_read limits program loads.program loaded certificate loads.reads loads.builds makes in
    let certified = goes_on loaded (Ok (loaded, certificate)) steps (goes_on certificate (Ok (loaded, certificate)) read refl) in
    let checked = with_certificate loaded certificate in
    goes_on checked (Valid checked)
    (goes_on (loaded, certificate) (Ok checked) certified (goes_on checked (Ok checked) (refl, refl, makes.valid) refl))
    refl

made_agreed : {limits : Limits} {program : List ℕ} {loaded : Loaded} {outcome : Outcome} → LoadsProgram limits program (Ok loaded) →
    First (Makes loaded) (Uncertified loaded) (λ certificate. Is (Certified (with_text loaded (certificate_text certificate)))) outcome → outcome_status outcome ≡ 0 →
    IsAgreed limits program outcome
made_agreed steps (fails w reason) zero = absurd (reason_some w zero)
made_agreed {limits} {program} {loaded} steps (goes_on certificate end makes is) zero =
    subst (λ (o : Outcome). IsAgreed limits program o) (sym is) (with_certificate loaded certificate, refl, agreed limits program loaded certificate steps makes)

certified_at : {limits : Limits} {program : List ℕ} {outcome : Outcome} → CertifyComesTo limits program outcome → outcome_status outcome ≡ 0 → IsAgreed limits program outcome
certified_at (fails r bad) zero = absurd (refused_some r zero)
certified_at (goes_on loaded end steps made) zero = made_agreed steps made zero

pub certified_is_agreed : CertifiedIsAgreed
certified_is_agreed limits program outcome comes zero = certified_at comes zero
