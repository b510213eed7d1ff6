-- Each step comes to one thing, unless memory runs out, and so do steps one after another.
use Rattle.std.proofs.Common.{◌≡◌, ◌≢◌, ◌⊎◌, inl, inr, ℕ, List, None, Result, Ok, Err, codes, refl, sym, ap, ◌∙◌, subst}
use Rattle.certificate_lang.{specs.Reads.{ReadsCertificate, number_of as certificate_number}, specs.declared.certificate.Certificate.{Certificate}, specs.declared.fault.CertificateFault.{CertificateFault}, proofs.Certificates.{one_certificate}, specs.Texts.{certificate_text}}
use Rattle.certificate_lang.specs.declared.fault.CertificateFault.TheVariants as of_certificate
use Rattle.program_commands.{proofs.Makings.{one_making}, proofs.Verdicts.{one_verdict}, specs.Commands.{IsSameOutcome, OneDescription, OneCertifying, OneCheck}, specs.declared.outcome.Outcome.{Outcome}, specs.declared.outcome.Outcome.TheVariants.{Refused, Uncertified, Certificate as Certified}, specs.declared.refusal.Refusal.{Refusal}, specs.Loading.{LoadsProgram, LoadsCertified, LoadsValid}, specs.Texts.{with_text}, specs.Outcomes.{IsShort}, specs.Refusals.{refusal_number, line_of, status_of}, specs.Steps.{First, Is, fails, goes_on}, proofs.Stepping.{loads_of}}
use Rattle.class_lang.{specs.Reads.{number_of as text_number}, specs.declared.size.Limits.{Limits}, specs.declared.fault.TextFault.{TextFault}, proofs.OneAnswer.{one_answer as one_reading}}
use Rattle.class_lang.specs.declared.fault.TextFault.TheVariants as of_text
use Rattle.class_outlines.specs.{FaultNumbers.{number_of as meta_number}, declared.fault.MetaFault.{MetaFault}}
use Rattle.meta_model.specs.{Loaded.{Loaded}, Sound.{IsSound}}
use Rattle.class_outlines.specs.declared.fault.MetaFault.TheVariants as of_meta
use Rattle.meta_objects.{specs.Builds.{Builds}, proofs.OnlyAnswer.{one_answer as one_loading}, proofs.FoundClasses.{form_sound}}
use Rattle.rank_check.specs.{Checks.{Checking, Denial, Examines, number_of as no_number}, declared.no.No.{No}}
use Rattle.rank_check.specs.declared.no.No.TheVariants as of_check
use Rattle.rank_make.specs.{Makes.{Makes}, declared.why.Why.{Why}}
use Rattle.rank_make.specs.declared.why.Why.TheVariants as why
use Rattle.script_lang.specs.declared.fault.ScriptFault.{ScriptFault}
use Rattle.script_lang.specs.declared.fault.ScriptFault.TheVariants as of_script
use Rattle.syntax_trees.specs.declared.program.Program.{Program}
use Rattle.program_commands.specs.declared.refusal.Refusal.TheVariants as refusal

-- what holds is one thing, or short of memory
abbrev pub OneOf : {R : Type 0} → (R → Type 0) → (R → Type 0) → Type 0
OneOf {R} Short Holds = (a b : R) → Holds a → Holds b → Short a ⊎ Short b ⊎ (a ≡ b)

-- ---- steps one after another

module _ {X F R : Type 0} {Finds : Result X F → Type 0} {fault_of : F → R} (StepShort : Result X F → Type 0) (Short : R → Type 0)
    (one : OneOf StepShort Finds) (short : (fault : F) → StepShort (Err fault) → Short (fault_of fault)) (never : (x : X) → StepShort (Ok x) → ⊥) where
  pub both_fail : (f g : F) → Finds (Err f) → Finds (Err g) → Short (fault_of f) ⊎ Short (fault_of g) ⊎ (fault_of f ≡ fault_of g)
  both_fail f g h k = elim (one (Err f) (Err g) h k) [
    | inl s ↦ inl (short f s)
    | inr rest ↦ elim rest [
      | inl s ↦ inr (inl (short g s))
      | inr same ↦ inr (inr (let is : f ≡ g = cc same in ap fault_of is))
    ]
  ]

  pub one_fails : (f : F) (x : X) → Finds (Err f) → Finds (Ok x) → Short (fault_of f)
  one_fails f x h k = elim (one (Err f) (Ok x) h k) [
    | inl s ↦ short f s
    | inr rest ↦ elim rest [
      | inl s ↦ absurd (never x s)
      | inr bad ↦ absurd (cc bad)
    ]
  ]

  pub same_found : (x y : X) → Finds (Ok x) → Finds (Ok y) → x ≡ y
  same_found x y h k = elim (one (Ok x) (Ok y) h k) [
    | inl s ↦ absurd (never x s)
    | inr rest ↦ elim rest [
      | inl s ↦ absurd (never y s)
      | inr same ↦ cc same
    ]
  ]

  module _ {Next : X → R → Type 0} where
    pub one_first : ((x : X) → OneOf Short (Next x)) → OneOf Short (First Finds fault_of Next)
    one_first next a b (fails f h) (fails g k) = both_fail f g h k
    one_first next a b (fails f h) (goes_on y end k more) = inl (one_fails f y h k)
    one_first next a b (goes_on x end h more) (fails g k) = inr (inl (one_fails g x k h))
    one_first next a b (goes_on x end h more) (goes_on y other k still) =
        next y end other (subst (λ (z : X). Next z end) (same_found x y h k) more) still

    -- where the first step finds something, that is what the next ones go on with
    pub goes_with : (x : X) {end : R} → Finds (Ok x) → First Finds fault_of Next end → Short end ⊎ Next x end
    goes_with x h (fails g k) = inl (one_fails g x k h)
    goes_with x h (goes_on y other k more) = inr (subst (λ (z : X). Next z other) (same_found y x k h) more)

pub one_is : {R : Type 0} (Short : R → Type 0) (what : R) → OneOf Short (Is what)
one_is Short what a b p q = inr (inr (p ∙ sym q))

-- ---- the steps

-- a refusal as memory ran out
abbrev pub IsShortResult : {X : Type 0} → Result X Refusal → Type 0
IsShortResult (Ok x) = ⊥
IsShortResult (Err r) = refusal_number r ≡ None

pub never_short : {X : Type 0} (x : X) → IsShortResult (Ok x) → ⊥
never_short x s = s

pub same_short : (r : Refusal) → refusal_number r ≡ None → refusal_number r ≡ None
same_short r s = s

abbrev IsShortReading : Result Program TextFault → Type 0
IsShortReading r = r ≡ Err of_text.Memory

text_short : (fault : TextFault) → IsShortReading (Err fault) → refusal_number (refusal.Text fault) ≡ None
text_short fault is = let same : fault ≡ of_text.Memory = cc is in ap text_number same

meta_is_memory : (fault : MetaFault) → (fault ≡ of_meta.Memory) ⊎ (fault ≢ of_meta.Memory)
meta_is_memory of_meta.DuplicateClass = inr (λ e. cc e)
meta_is_memory of_meta.NoBase = inr (λ e. cc e)
meta_is_memory of_meta.DuplicateMember = inr (λ e. cc e)
meta_is_memory of_meta.NoMember = inr (λ e. cc e)
meta_is_memory of_meta.BadNotify = inr (λ e. cc e)
meta_is_memory of_meta.NoType = inr (λ e. cc e)
meta_is_memory of_meta.Memory = inl refl

abbrev IsShortLoading : Result Loaded MetaFault → Type 0
IsShortLoading r = r ≡ Err of_meta.Memory

loading_or_short : (r : Result Loaded MetaFault) → IsShortLoading r ⊎ (r ≢ Err of_meta.Memory)
loading_or_short (Ok loaded) = inr (λ e. cc e)
loading_or_short (Err fault) = elim (meta_is_memory fault) [
  | inl is ↦ inl (ap (λ (f : MetaFault). Err f) is)
  | inr other ↦ inr (λ e. other (cc e))
]

builds_once : (program : Program) → OneOf IsShortLoading (Builds program)
builds_once program a b h k = elim (loading_or_short a) [
  | inl s ↦ inl s
  | inr x ↦ elim (loading_or_short b) [
    | inl s ↦ inr (inl s)
    | inr y ↦ inr (inr (one_loading program a b h k x y))
  ]
]

pub loads_once : (limits : Limits) (program : List ℕ) → OneOf IsShortResult (LoadsProgram limits program)
loads_once limits program =
    one_first IsShortReading IsShortResult (one_reading limits program) text_short (λ x e. cc e)
    (λ tree. one_first IsShortLoading IsShortResult (builds_once tree) (λ fault is. let same : fault ≡ of_meta.Memory = cc is in ap meta_number same) (λ x e. cc e)
    (λ loaded. one_is IsShortResult (Ok loaded)))

abbrev IsShortCertificate : Result Certificate CertificateFault → Type 0
IsShortCertificate r = r ≡ Err of_certificate.Memory

certificate_once : (text : List ℕ) → OneOf IsShortCertificate (ReadsCertificate text)
certificate_once text (Ok a) (Ok b) h k = inr (inr (ap (λ (c : Certificate). Ok c) (one_certificate text a b h k)))
certificate_once text (Ok a) (Err of_certificate.Format) h k = absurd (k a h)
certificate_once text (Ok a) (Err of_certificate.Memory) h k = inr (inl refl)
certificate_once text (Err of_certificate.Format) (Ok b) h k = absurd (h b k)
certificate_once text (Err of_certificate.Format) (Err of_certificate.Format) h k = inr (inr refl)
certificate_once text (Err of_certificate.Format) (Err of_certificate.Memory) h k = inr (inl refl)
certificate_once text (Err of_certificate.Memory) b h k = inl refl

pub certified_once : (limits : Limits) (program certificate : List ℕ) → OneOf IsShortResult (LoadsCertified limits program certificate)
certified_once limits program certificate =
    one_first IsShortResult IsShortResult (loads_once limits program) same_short never_short
    (λ loaded. one_first IsShortCertificate IsShortResult (certificate_once certificate) (λ fault is. let same : fault ≡ of_certificate.Memory = cc is in ap certificate_number same) (λ x e. cc e)
    (λ read. one_is IsShortResult (Ok (loaded, read))))

abbrev pub IsShortCheck : Result Checking Denial → Type 0
IsShortCheck (Ok checked) = ⊥
IsShortCheck (Err denial) = denial.no ≡ of_check.Memory

pub never_denied : (checked : Checking) → IsShortCheck (Ok checked) → ⊥
never_denied checked s = s

abbrev denial_of : Loaded → Certificate → No → Result Checking Denial
denial_of p c reason = Err (record { program = p; certificate = c; no = reason })

-- nos of one program, one certificate and one condition are one
same_denial : (a b : Denial) → a.program ≡ b.program → a.certificate ≡ b.certificate → a.no ≡ b.no → denial_of a.program a.certificate a.no ≡ denial_of b.program b.certificate b.no
same_denial a b p c n =
    ap (λ (q : Loaded). denial_of q a.certificate a.no) p ∙ ap (λ (d : Certificate). denial_of b.program d a.no) c ∙ ap (λ (m : No). denial_of b.program b.certificate m) n

pub check_once : (p : Loaded) (certificate : Certificate) → OneOf IsShortCheck (Examines p certificate)
check_once p c (Ok x) (Ok y) h g = elim (one_verdict p c (Ok x) (Ok y) h g) [
  | inl e ↦ absurd (cc e)
  | inr (inl e) ↦ absurd (cc e)
  | inr (inr e) ↦ inr (inr (let same : x ≡ y = cc e in ap (λ (z : Checking). let r : Result Checking Denial = Ok z in r) same))
]
check_once p c (Ok x) (Err b) h g = elim (one_verdict p c (Ok x) (Err b.no) h g.2) [
  | inl e ↦ absurd (cc e)
  | inr (inl e) ↦ inr (inl (let same : b.no ≡ of_check.Memory = cc e in same))
  | inr (inr e) ↦ absurd (cc e)
]
check_once p c (Err a) (Ok y) h g = elim (one_verdict p c (Err a.no) (Ok y) h.2 g) [
  | inl e ↦ inl (let same : a.no ≡ of_check.Memory = cc e in same)
  | inr (inl e) ↦ absurd (cc e)
  | inr (inr e) ↦ absurd (cc e)
]
check_once p c (Err a) (Err b) h g = elim (one_verdict p c (Err a.no) (Err b.no) h.2 g.2) [
  | inl e ↦ inl (let same : a.no ≡ of_check.Memory = cc e in same)
  | inr (inl e) ↦ inr (inl (let same : b.no ≡ of_check.Memory = cc e in same))
  | inr (inr e) ↦ inr (inr (let same : a.no ≡ b.no = cc e in same_denial a b (h.0 ∙ sym g.0) (h.1 ∙ sym g.1) same))
]

pub check_short : (denial : Denial) → IsShortCheck (Err denial) → refusal_number (refusal.Check denial) ≡ None
check_short denial is = ap no_number is

valid_once : (limits : Limits) (program certificate : List ℕ) → OneOf IsShortResult (LoadsValid limits program certificate)
valid_once limits program certificate =
    one_first IsShortResult IsShortResult (certified_once limits program certificate) same_short never_short
    (λ both. one_first IsShortCheck IsShortResult (check_once both.0 both.1) check_short never_denied (λ checked. one_is IsShortResult (Ok checked)))

-- ---- the commands

script_short : (fault : ScriptFault) → refusal_number (refusal.Script fault) ≡ None → IsShort (Refused (refusal.Script fault))
script_short of_script.TooLarge is = absurd (cc is)
script_short (of_script.BadLine n) is = absurd (cc is)
script_short of_script.Memory is = record { line = refl; status_is = refl }

pub short_refusal : (r : Refusal) → refusal_number r ≡ None → IsShort (Refused r)
short_refusal (refusal.Text fault) is = record { line = ap (line_of (codes "refused ")) is; status_is = ap (status_of 2) is }
short_refusal (refusal.Loading fault) is = record { line = ap (line_of (codes "refused ")) is; status_is = ap (status_of 2) is }
short_refusal (refusal.Certificate fault) is = record { line = ap (line_of (codes "refused ")) is; status_is = ap (status_of 2) is }
short_refusal (refusal.Script fault) is = script_short fault is
short_refusal (refusal.Check w) is = record { line = ap (line_of (codes "no ")) is; status_is = ap (status_of 3) is }
short_refusal (refusal.Unsettled reason) is = record { line = ap (line_of (codes "no ")) is; status_is = ap (status_of 3) is }
short_refusal (refusal.Natives fault) is = absurd (cc is)

pub one_description : OneDescription
one_description limits program = one_first IsShortResult IsShort (loads_once limits program) short_refusal never_short (λ loaded. one_is IsShort _)

pub one_check : OneCheck
one_check limits program certificate = one_first IsShortResult IsShort (valid_once limits program certificate) short_refusal never_short (λ checked. one_is IsShort _)

-- ---- `certify`

pub loaded_sound : {limits : Limits} {text : List ℕ} {loaded : Loaded} → LoadsProgram limits text (Ok loaded) → IsSound loaded
loaded_sound {limits} {text} {loaded} steps =
    let loads = loads_of steps in
    form_sound loads.program loaded loads.builds

short_reason : (loaded : Loaded) (w : Why) → w ≡ why.Memory → IsShort (Uncertified loaded w)
short_reason loaded w is = subst (λ (v : Why). IsShort (Uncertified loaded v)) (sym is) (record { line = refl; status_is = refl })

abbrev MakesAs : Loaded → Outcome → Type 0
MakesAs loaded = First (Makes loaded) (Uncertified loaded) (λ certificate. Is (Certified (with_text loaded (certificate_text certificate))))

made_same : (loaded : Loaded) (c d : Certificate) {a b : Outcome} → a ≡ Certified (with_text loaded (certificate_text c)) → b ≡ Certified (with_text loaded (certificate_text d)) → c ≡ d → IsSameOutcome a b
made_same loaded c d {a} {b} is also same =
    subst (λ (o : Outcome). IsSameOutcome o b) (sym is)
    (subst (λ (o : Outcome). IsSameOutcome (Certified (with_text loaded (certificate_text c))) o) (sym also) (ap (λ (x : Certificate). Certified (with_text loaded (certificate_text x))) same))

one_made : (loaded : Loaded) → IsSound loaded → (a b : Outcome) → MakesAs loaded a → MakesAs loaded b → IsShort a ⊎ IsShort b ⊎ IsSameOutcome a b
one_made loaded is a b (fails v h) (fails w k) = elim (one_making loaded is (Err v) (Err w) h k) [
  | inl s ↦ inl (short_reason loaded v (cc s))
  | inr rest ↦ elim rest [
    | inl s ↦ inr (inl (short_reason loaded w (cc s)))
    | inr same ↦ inr (inr (refl, same))
  ]
]
one_made loaded is a b (fails v h) (goes_on d other k also) = elim (one_making loaded is (Err v) (Ok d) h k) [
  | inl s ↦ inl (short_reason loaded v (cc s))
  | inr rest ↦ elim rest [
    | inl s ↦ absurd (cc s)
    | inr bad ↦ absurd bad
  ]
]
one_made loaded is a b (goes_on c end h so) (fails w k) = elim (one_making loaded is (Ok c) (Err w) h k) [
  | inl s ↦ absurd (cc s)
  | inr rest ↦ elim rest [
    | inl s ↦ inr (inl (short_reason loaded w (cc s)))
    | inr bad ↦ absurd bad
  ]
]
one_made loaded is a b (goes_on c end h so) (goes_on d other k also) = elim (one_making loaded is (Ok c) (Ok d) h k) [
  | inl s ↦ absurd (cc s)
  | inr rest ↦ elim rest [
    | inl s ↦ absurd (cc s)
    | inr same ↦ inr (inr (made_same loaded c d so also same))
  ]
]

pub one_certifying : OneCertifying
one_certifying limits program a b (fails f h) (fails g k) = both_fail IsShortResult IsShort (loads_once limits program) short_refusal never_short f g h k
one_certifying limits program a b (fails f h) (goes_on y end k more) = inl (one_fails IsShortResult IsShort (loads_once limits program) short_refusal never_short f y h k)
one_certifying limits program a b (goes_on x end h more) (fails g k) = inr (inl (one_fails IsShortResult IsShort (loads_once limits program) short_refusal never_short g x k h))
one_certifying limits program a b (goes_on x end h more) (goes_on y other k still) =
    let same = same_found {fault_of = Refused} IsShortResult IsShort (loads_once limits program) short_refusal never_short x y h k in
    one_made y (loaded_sound k) end other (subst (λ (z : Loaded). MakesAs z end) same more) still
