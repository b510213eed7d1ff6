-- What the commands on settling certificates come to (docs/settling.md). Memory may run out at any step; that it comes only where a
-- growth of memory was refused is not stated here.
use Rattle.std.specs.{Prelude.{◌≡◌, ◌⊎◌, ℕ, List, [], ◌∷◌, Some, Ok}, List.{Contains}}
use Rattle.certificate_lang.specs.declared.certificate.Certificate.{Certificate as Plain}
use Rattle.class_lang.specs.declared.size.Limits.{Limits}
use Rattle.meta_model.specs.Loaded.{Loaded}
use Rattle.effect_scan.specs.{declared.node.Node.{Node}, Edges.{MayLead}}
use Rattle.type_check.specs.{Firsts.{IsFirstWithout}, Wires.{IsFitWire, AreFitWires}, Typed.{FindsUntyped}}
use Rattle.rank_check.specs.Entries.{IsReady}
use Rattle.rank_check.specs.Valid as plain
use Rattle.rank_graph.specs.Walks.{ComesBack}
use Rattle.rank_make.specs.{Walks.{LeadsToDestruction}, declared.why.Why.{Why}, declared.why.Why.TheVariants.{Wire, BodyType, Cycle, DestroyPath, TooHigh, Memory}}
use Rattle.settling.specs.{Checks.{Checking}, Hands.{HandOn}, Settles.{Carries, IsProperty}, declared.certificate.SettlingCertificate.{SettlingCertificate}}
use Rattle.settling_make.specs.{Circles.{NoneIsValid}, Makes.{Makes, IsLong, RanksAreTooHigh, StepsAreTooHigh}, Flat.{MakesFlat}, Least.{MakesLeast}}
use Rattle.settling_texts.specs.Texts.{settling_text}
use Rattle.program_commands.specs.{declared.outcome.Outcome.{Outcome}, declared.outcome.Outcome.TheVariants.{Refused, Settling}, declared.settling_commands.outcome.SettlingOutcome.TheVariants.{Certificate, Uncertified, Valid}, Loading.{LoadsProgram, LoadsSettled}, Outcomes.{IsShort}, Steps.{First, Is}}

-- `check --settling`, from the limits and the texts of the program and the settling certificate
abbrev pub CheckSettlingComesTo : Limits → List ℕ → List ℕ → Outcome → Type 0
CheckSettlingComesTo limits program certificate = First (LoadsSettled limits program certificate) Refused (λ checked. Is (Settling (Valid checked)))

-- ---- `certify --settling`

-- a circle from x by y and back
pub record GoesBy (p : Loaded) (x y : Node) (nodes : List Node) : Type 0 where
  pub comes_back : ComesBack (MayLead p) x nodes
  pub next : (rest : List Node) × (nodes ≡ x ∷ y ∷ rest)

-- a circle, whose first node carries no value, along whose first edge a value isn't handed on, or none of whose nodes is a property
pub record IsUnsettled (p : Loaded) (nodes : List Node) : Type 0 where
  pub first : Node
  pub comes_back : ComesBack (MayLead p) first nodes
  pub against : (¬ Carries p first) ⊎ ((next : Node) × GoesBy p first next nodes × ¬ HandOn p first next)
      ⊎ ((z : Node) → Contains nodes z → ¬ IsProperty z)

-- Why none is made. No certificate is valid, but where ranks or steps are too high, which no node shows; running out of memory says
-- nothing.
abbrev pub IsToldReason : Loaded → Why → Type 0
IsToldReason p (Wire place) = IsFirstWithout (IsFitWire p) p.wires place × NoneIsValid p
IsToldReason p (BodyType spot) = AreFitWires p × FindsUntyped p (Some spot) × NoneIsValid p
IsToldReason p (Cycle nodes) = IsReady p × IsUnsettled p nodes × NoneIsValid p
IsToldReason p (DestroyPath nodes) = IsReady p × LeadsToDestruction p nodes × NoneIsValid p
IsToldReason p (TooHigh []) = IsReady p × (RanksAreTooHigh p ⊎ StepsAreTooHigh p)
IsToldReason p (TooHigh (x ∷ rest)) = IsReady p × IsLong p x × (rest ≡ []) × NoneIsValid p
IsToldReason p Memory = Unit {0}

-- a least valid certificate as a text, or a reason; where a certificate without steps is valid, memory alone
pub data Certifies (p : Loaded) : Outcome → Type 0 where
  made : (certificate : SettlingCertificate) → Makes p (Ok certificate) → MakesFlat p (Ok certificate) → MakesLeast p (Ok certificate)
      → Certifies p (Settling (Certificate p (settling_text certificate)))
  none : (why : Why) → IsToldReason p why → ((given : Plain) → plain.IsValid p given → why ≡ Memory)
      → Certifies p (Settling (Uncertified p why))

-- `certify --settling`, from the limits and the program's text
abbrev pub CertifySettlingComesTo : Limits → List ℕ → Outcome → Type 0
CertifySettlingComesTo limits program = First (LoadsProgram limits program) Refused Certifies

-- ---- law

-- The text is that of a settling certificate with which from the program's text `check --settling` comes to a yes, and unless memory
-- runs out to nothing else.
pub record IsSettlingAgreed (limits : Limits) (program : List ℕ) (p : Loaded) (text : List ℕ) : Type 0 where
  pub checked : Checking
  pub for : checked.program ≡ p
  pub is : text ≡ settling_text checked.certificate
  pub agreed : CheckSettlingComesTo limits program text (Settling (Valid checked))
  pub only : (told : Outcome) → CheckSettlingComesTo limits program text told → IsShort told ⊎ (told ≡ Settling (Valid checked))

-- so it is of each text that `certify --settling` comes to
abbrev pub SettlingIsAgreed : Type 0
SettlingIsAgreed =
    (limits : Limits) (program : List ℕ) (p : Loaded) (text : List ℕ) → CertifySettlingComesTo limits program (Settling (Certificate p text)) →
    IsSettlingAgreed limits program p text
