-- Offences, the declarations that they are of, and searches for them.
use Rattle.std.proofs.Common.{◌≡◌, ℕ, ◌+◌, ◌<◌, ◌≤◌, List, [], ◌∷◌, ◌++◌, length, take, get_or, slice_get, Option, Some, None, Any, ◌⊎◌, inl, inr, refl, sym, ap, ◌∙◌, subst}
use Rattle.std.specs.List.{AllZip}
use Rattle.std.proofs.lemmas.List.{take_all}
use Rattle.std.proofs.lemmas.Option.{slice_get_read}
use Rattle.syntax_trees.specs.declared.program.Class.{Class}
use Rattle.syntax_trees.specs.declared.program.Program.{Program}
use Rattle.class_outlines.specs.declared.fault.MetaFault.{MetaFault}
use Rattle.class_outlines.specs.declared.offence.Member.{Member}
use Rattle.class_outlines.specs.declared.offence.Declaration.{Declaration}
use Rattle.class_outlines.specs.declared.offence.Declaration.TheVariants as declaration
use Rattle.class_outlines.specs.declared.offence.Breach.{Breach}
use Rattle.class_outlines.specs.declared.offence.Offence.{Offence}
use Rattle.class_outlines.specs.Offences.{IsMember, IsDeclared, fault_of, offence_of, IsOffence, IsOffenceIn, TellsOffence, TellsOffenceIn, TellsBreach}
use Rattle.name_indexes.specs.Places.{StandsAt}
use Rattle.name_indexes.proofs.Searches.{none_more, none_at_all, met}
use Rattle.name_indexes.proofs.Zips.{any_of, place_of_any, zip_push}

-- ---- searches in a list, by a slice of it
module _ {X : Type 0} (P : X → Type 0) (xs ys : List X) (e : ys ≡ xs) where
  pub within : (i : ℕ) → i < length ys → i < length xs
  within i inside = subst (λ (zs : List X). i < length zs) e inside

  item : (i : ℕ) (x : X) → x ≡ get_or ys i x → x ≡ get_or xs i x
  item i x is = subst (λ (zs : List X). x ≡ get_or zs i x) e is

  pub item_at : (i : ℕ) (x : X) → i < length ys → x ≡ get_or ys i x → slice_get xs i ≡ Some x
  item_at i x inside is = slice_get_read xs (length xs) i x refl (within i inside) (item i x is)

  pub none_further : (i : ℕ) (x : X) → ((k : ℕ) → k < i → ¬ StandsAt P xs k) → i < length ys → x ≡ get_or ys i x → ¬ P x → (k : ℕ) → k < i + 1 → ¬ StandsAt P xs k
  none_further i x before inside is not = none_more P xs i x before (within i inside) (item i x is) not

  pub any_met : (i : ℕ) (x : X) → i < length ys → x ≡ get_or ys i x → P x → Any P xs
  any_met i x inside is has = any_of P xs i (met P xs i x (within i inside) (item i x is) has)

  pub none_met : (i : ℕ) → ((k : ℕ) → k < i → ¬ StandsAt P xs k) → length ys ≤ i → ¬ Any P xs
  none_met i before past any =
      let at = place_of_any P xs any in
      none_at_all P xs i before (subst (λ (zs : List X). length zs ≤ i) e past) at.0 at.1

-- ---- offences
pub offends : (program : Program) (fault : MetaFault) (d : Declaration) → IsDeclared program d → (b : Breach) → fault_of b.reason ≡ fault → (o : Offence) → o ≡ offence_of d b → IsOffence program fault o
offends program fault d declared b leads o e = record {
  leads = ap (λ (x : Offence). fault_of x.reason) e ∙ leads;
  declared = subst (λ (x : Declaration). IsDeclared program x) (sym (ap (λ (x : Offence). x.declaration) e)) declared;
}

pub offends_in : (i : ℕ) (class : Class) (fault : MetaFault) (m : Member) → IsMember class m → (b : Breach) → fault_of b.reason ≡ fault → (o : Offence) → o ≡ offence_of (declaration.Member i m) b → IsOffenceIn i class fault o
offends_in i class fault m declares b leads o e = record {
  leads = ap (λ (x : Offence). fault_of x.reason) e ∙ leads;
  member = m;
  is = ap (λ (x : Offence). x.declaration) e;
  declares = declares;
}

-- .. of a class of the program
pub offends_from : (program : Program) (i : ℕ) (class : Class) (fault : MetaFault) (o : Offence) → slice_get program.classes i ≡ Some class → IsOffenceIn i class fault o → IsOffence program fault o
offends_from program i class fault o at is = record {
  leads = is.leads;
  declared = subst (λ (x : Declaration). IsDeclared program x) (sym is.is) (record { item = class; is = at; has = is.declares });
}

-- ---- the second of two searches
module _ (A B : Type 0) (no : ¬ A) where
  neither : ¬ B → ¬ (A ⊎ B)
  neither none w = elim w [ inl a ↦ no a | inr b ↦ none b ]

  pub or_offence : (program : Program) (fault : MetaFault) (r : Option Offence) → TellsOffence program fault B r → TellsOffence program fault (A ⊎ B) r
  or_offence program fault None h = neither h
  or_offence program fault (Some o) h = (inr h.0, h.1)

  pub or_offence_in : (i : ℕ) (class : Class) (fault : MetaFault) (r : Option Offence) → TellsOffenceIn i class fault B r → TellsOffenceIn i class fault (A ⊎ B) r
  or_offence_in i class fault None h = neither h
  or_offence_in i class fault (Some o) h = (inr h.0, h.1)

  pub or_breach : (fault : MetaFault) (r : Option Breach) → TellsBreach fault B r → TellsBreach fault (A ⊎ B) r
  or_breach fault None h = neither h
  or_breach fault (Some b) h = (inr h.0, h.1)

-- ---- lists that are made element by element, over a slice
module _ {A B : Type 0} (R : A → B → Type 0) (xs ys : List A) (e : ys ≡ xs) where
  pub zip_further : (ws zs : List B) (i : ℕ) (x : A) (y : B) → i < length ys → x ≡ get_or ys i x → R x y → AllZip R (take i xs) ws → zs ≡ ws ++ y ∷ [] → AllZip R (take (i + 1) xs) zs
  zip_further ws zs i x y inside is r before push =
      zip_push R xs ws zs i x y (subst (λ (us : List A). i < length us) e inside) (subst (λ (us : List A). x ≡ get_or us i x) e is) r before push

  pub zip_done : (zs : List B) (i : ℕ) → length ys ≤ i → AllZip R (take i xs) zs → AllZip R xs zs
  zip_done zs i past h = subst (λ (us : List A). AllZip R us zs) (take_all i xs (subst (λ (us : List A). length us ≤ i) e past)) h
