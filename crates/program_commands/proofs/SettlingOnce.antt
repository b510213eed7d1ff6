-- `check --settling` comes to one thing, unless memory runs out, and `certify --settling` to one of a program.
use Rattle.std.proofs.Common.{◌≡◌, inl, inr, ℕ, List, None, Result, Ok, Err, refl, sym, ap, ◌∙◌, subst}
use Rattle.certificate_lang.specs.{Reads.{number_of as certificate_number}, declared.fault.CertificateFault.{CertificateFault}}
use Rattle.certificate_lang.specs.declared.fault.CertificateFault.TheVariants as of_certificate
use Rattle.class_lang.specs.declared.size.Limits.{Limits}
use Rattle.meta_model.specs.Loaded.{Loaded}
use Rattle.type_check.specs.{Wires.{AreFitWires}, Typed.{IsTypedProgram}}
use Rattle.rank_check.specs.{Checks.{number_of as no_number}, declared.no.No.{No}}
use Rattle.rank_check.specs.declared.no.No.TheVariants.{Wire, BodyType, Missing, Extra, Edge, Destroys, Bound, Memory}
use Rattle.settling.specs.{Checks.{Checking, Checks, IsNo}, Valid.{HasEachNode, HasNothingElse, EdgesFall, SetsHold, IsBounded, AreRounds, IsValid}, declared.certificate.SettlingCertificate.{SettlingCertificate}}
use Rattle.settling_texts.{specs.Reads.{ReadsSettling}, proofs.Certificates.{one_settling}}
use Rattle.program_commands.{specs.Commands.{IsSameOutcome, OneSettlingCertifying, OneSettlingCheck}, specs.declared.outcome.Outcome.{Outcome}, specs.declared.outcome.Outcome.TheVariants.{Refused}, specs.Settling.{Certifies, made, none}, specs.Steps.{fails, goes_on}, specs.Loading.{LoadsSettling, LoadsSettled}, specs.Outcomes.{IsShort}, specs.Refusals.{refusal_number}, proofs.Once.{OneOf, one_first, one_is, both_fail, one_fails, same_found, loads_once, IsShortResult, same_short, never_short, short_refusal}, proofs.Verdicts.{IsNoOf, none_fails, one_no}}
use Rattle.program_commands.specs.declared.refusal.Refusal.TheVariants as refusal

-- ---- the certificate is read
abbrev IsShortReading : Result SettlingCertificate CertificateFault → Type 0
IsShortReading r = r ≡ Err of_certificate.Memory

reading_once : (text : List ℕ) → OneOf IsShortReading (ReadsSettling text)
reading_once text (Ok a) (Ok b) h k = inr (inr (ap (λ (c : SettlingCertificate). Ok c) (one_settling text a b h k)))
reading_once text (Ok a) (Err of_certificate.Format) h k = absurd (k a h)
reading_once text (Ok a) (Err of_certificate.Memory) h k = inr (inl refl)
reading_once text (Err of_certificate.Format) (Ok b) h k = absurd (h b k)
reading_once text (Err of_certificate.Format) (Err of_certificate.Format) h k = inr (inr refl)
reading_once text (Err of_certificate.Format) (Err of_certificate.Memory) h k = inr (inl refl)
reading_once text (Err of_certificate.Memory) b h k = inl refl

pub settling_once : (limits : Limits) (program certificate : List ℕ) → OneOf IsShortResult (LoadsSettling limits program certificate)
settling_once limits program certificate =
    one_first IsShortResult IsShortResult (loads_once limits program) same_short never_short
    (λ loaded. one_first IsShortReading IsShortResult (reading_once certificate) (λ fault is. let same : fault ≡ of_certificate.Memory = cc is in ap certificate_number same) (λ x e. cc e)
    (λ read. one_is IsShortResult (Ok (loaded, read))))

-- ---- the certificate is checked
abbrev pub IsShortCheck : Result Checking No → Type 0
IsShortCheck r = r ≡ Err Memory

abbrev as_err : No → Result Checking No
as_err answer = Err answer

module _ (p : Loaded) (c : SettlingCertificate) where
  by_conditions : (answer : No) → IsNo p c answer →
      IsNoOf (AreFitWires p) (IsTypedProgram p) (HasEachNode p c) (HasNothingElse p c) (EdgesFall p c) (SetsHold p c) (IsBounded c × AreRounds p c) answer
  by_conditions Wire h = h
  by_conditions BodyType h = h
  by_conditions Missing h = h
  by_conditions Extra h = h
  by_conditions Edge h = h
  by_conditions Destroys h = h
  by_conditions Bound h = h
  by_conditions Memory h = h

  valid_no : IsValid p c → (answer : No) → IsNo p c answer → answer ≡ Memory
  valid_no v answer h = none_fails (AreFitWires p) (IsTypedProgram p) (HasEachNode p c) (HasNothingElse p c) (EdgesFall p c) (SetsHold p c) (IsBounded c × AreRounds p c) v.wires v.typed v.each_node v.nothing_else v.edges v.sets (v.bounded, v.rounds) answer (by_conditions answer h)

  pub settling_check_once : OneOf IsShortCheck (Checks p c)
  settling_check_once (Ok x) (Ok y) h g =
      inr (inr (
      ap (λ (q : Loaded). let z : Checking = record { program = q; certificate = x.certificate } in let r : Result Checking No = Ok z in r) (h.0 ∙ sym g.0)
      ∙ ap (λ (d : SettlingCertificate). let z : Checking = record { program = y.program; certificate = d } in let r : Result Checking No = Ok z in r) (h.1 ∙ sym g.1)
      ))
  settling_check_once (Ok x) (Err b) h g = inr (inl (ap as_err (valid_no h.2 b g)))
  settling_check_once (Err a) (Ok y) h g = inl (ap as_err (valid_no g.2 a h))
  settling_check_once (Err a) (Err b) h g =
      elim (one_no (AreFitWires p) (IsTypedProgram p) (HasEachNode p c) (HasNothingElse p c) (EdgesFall p c) (SetsHold p c) (IsBounded c × AreRounds p c) a b (by_conditions a h) (by_conditions b g)) [
        | inl memory ↦ inl (ap as_err memory)
        | inr (inl memory) ↦ inr (inl (ap as_err memory))
        | inr (inr same) ↦ inr (inr (ap as_err same))
      ]

pub settling_short : (answer : No) → IsShortCheck (Err answer) → refusal_number (refusal.Unsettled answer) ≡ None
settling_short answer is = let same : answer ≡ Memory = cc is in ap no_number same

settled_once : (limits : Limits) (program certificate : List ℕ) → OneOf IsShortResult (LoadsSettled limits program certificate)
settled_once limits program certificate =
    one_first IsShortResult IsShortResult (settling_once limits program certificate) same_short never_short
    (λ both. one_first IsShortCheck IsShortResult (settling_check_once both.0 both.1) settling_short (λ x e. cc e) (λ checked. one_is IsShortResult (Ok checked)))

pub one_settling_check : OneSettlingCheck
one_settling_check limits program certificate = one_first IsShortResult IsShort (settled_once limits program certificate) short_refusal never_short (λ checked. one_is IsShort _)

-- ---- a certificate is made
certified_same : (p : Loaded) (a b : Outcome) → Certifies p a → Certifies p b → IsSameOutcome a b
certified_same p a b (made c valid flat least) (made d also level best) = refl
certified_same p a b (made c valid flat least) (none w is short) = refl
certified_same p a b (none w is short) (made c valid flat least) = refl
certified_same p a b (none v is short) (none w also brief) = refl

pub one_settling_certifying : OneSettlingCertifying
one_settling_certifying limits program a b (fails f h) (fails g k) = both_fail IsShortResult IsShort (loads_once limits program) short_refusal never_short f g h k
one_settling_certifying limits program a b (fails f h) (goes_on y end k more) = inl (one_fails IsShortResult IsShort (loads_once limits program) short_refusal never_short f y h k)
one_settling_certifying limits program a b (goes_on x end h more) (fails g k) = inr (inl (one_fails IsShortResult IsShort (loads_once limits program) short_refusal never_short g x k h))
one_settling_certifying limits program a b (goes_on x end h more) (goes_on y other k still) =
    let same = same_found {fault_of = Refused} IsShortResult IsShort (loads_once limits program) short_refusal never_short x y h k in
    inr (inr (certified_same y end other (subst (λ (p : Loaded). Certifies p end) same more) still))
