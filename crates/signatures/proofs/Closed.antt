-- Lists that are closed by a bracket.
use Rattle.std.proofs.Common.{◌≡◌, ◌↔◌, true, false, List, [], ◌∷◌, ◌++◌, refl, ap}
use Rattle.std.specs.Prelude.{not, IsTrue, is_some, Option, Some, None, Bool}
use Rattle.std.specs.List.{AllByRecursion}
use Rattle.basic_types.specs.Signatures.{IsPart, IsClosed}
use Rattle.basic_types.specs.Tokens.{Token, mark}
use Rattle.signatures.specs.code.Scanning.{TakesNext}
use Rattle.basic_types.specs.declared.mark.Mark.TheVariants.{Close}
use Rattle.signatures.specs.declared.scanner.Scanned.{Scanned}

-- a part in front changes nothing
pub part_more : (t : Token) (ts : List Token) → IsPart t → IsClosed ts → IsClosed (t ∷ ts)
part_more t ts part h = record { parts = t ∷ h.parts; is = ap (λ xs. t ∷ xs) h.is; inside = (part, h.inside) }

part_less : (t : Token) (ts ps : List Token) → IsPart t → t ∷ ts ≡ ps ++ mark Close ∷ [] → AllByRecursion IsPart ps → IsClosed ts
part_less t ts [] part e inside = let k : t ≡ mark Close = cc in absurd (rw k at part)
part_less t ts (p ∷ ps) part e inside = record { parts = ps; is = (cc); inside = inside.1 }

pub closed_part : (t : Token) (ts : List Token) → IsPart t → IsClosed (t ∷ ts) ↔ IsClosed ts
closed_part t ts part = (λ h. part_less t ts h.parts part h.is h.inside, λ h. part_more t ts part h)

-- what is no part can only be the bracket at the end
no_part : (t : Token) (ts ps : List Token) → ¬ IsPart t → t ∷ ts ≡ ps ++ mark Close ∷ [] → AllByRecursion IsPart ps → (t ≡ mark Close) × (ts ≡ [])
no_part t ts [] apart e inside = ((cc), (cc))
no_part t ts (p ∷ ps) apart e inside = let k : p ≡ t = cc in absurd (apart (rw k at inside.0))

pub closed_end : (t : Token) (ts : List Token) → ¬ IsPart t → IsClosed (t ∷ ts) → (t ≡ mark Close) × (ts ≡ [])
closed_end t ts apart h = no_part t ts h.parts apart h.is h.inside

pub closed_here : (t : Token) (ts : List Token) → t ≡ mark Close → ts ≡ [] → IsClosed (t ∷ ts)
closed_here t ts e d = record { parts = []; is = (cc); inside = tt }

-- what `is_closed` finds at the first token that is no part
pub closed_last : (found : Option Scanned) (r : Bool) (t : Token) (now after : List Token) → TakesNext now found after → is_some found ≡ not r → ¬ IsPart t → t ≡ mark Close → IsTrue r ↔ IsClosed (t ∷ now)
closed_last None true t now after h e apart k = (λ _. closed_here t now k h.0, λ _. refl)
closed_last None false t now after h e apart k = cc
closed_last (Some s) true t now after h e apart k = cc
closed_last (Some s) false t now after h e apart k = (λ x. absurd (cc), λ x. let d = (closed_end t now apart x).1 in absurd (cc))
