-- Each member of a class appears once.
use Rattle.std.proofs.Common.{◌≡◌, ℕ, zero, suc, List, [], ◌∷◌, ◌++◌, length, slice_get, Some, Any, ap, inl, inr, sym, subst}
use Rattle.std.proofs.lemmas.Option.{none-some, same_Some}
use Rattle.basic_types.specs.declared.sig.Sig.{Sig}
use Rattle.class_outlines.specs.declared.outline.Heading.{Heading}
use Rattle.class_outlines.specs.declared.outline.Outline.{Outline}
use Rattle.name_indexes.specs.Places.{StandsAt, NoneStands, StandsOnlyAt}
use Rattle.class_outlines.specs.Clashes.{AreOneCall, HasTwoMembers}
use Rattle.class_outlines.specs.Indexed.{IsCallOf}
use Rattle.name_indexes.proofs.Once.{once, get_split_at}
use Rattle.name_indexes.proofs.Zips.{place_of_any}

pub only_call : (o : Outline) → (¬ HasTwoMembers o) → (name : List ℕ) (count m : ℕ) → StandsAt (IsCallOf name count) o.methods m → StandsOnlyAt (IsCallOf name count) o.methods m
only_call o one name count m here k at =
    let named : at.item.sig.name ≡ here.item.sig.name = cc in
    let counted : length at.item.sig.types ≡ length here.item.sig.types = cc in
    once AreOneCall o.methods (λ t. one (inl t)) k m at.item here.item at.is here.is (named, counted) (sym named, sym counted)

-- a method of this signature has its name and its number of parameters
pub called_by : (sig : Sig) (h : Heading) → h.sig ≡ sig → IsCallOf sig.name (length sig.types) h
called_by sig h e = (ap (λ (s : Sig). s.name) e, ap (λ (s : Sig). length s.types) e)

-- what none of the elements has, and one more hasn't
pub none_longer : {X : Type 0} (P : X → Type 0) (xs : List X) (x : X) → NoneStands P xs → ¬ P x → NoneStands P (xs ++ x ∷ [])
none_longer P xs x none not k at =
    elim (get_split_at xs (x ∷ []) k at.item at.is) [
      | inl e ↦ none k (record { item = at.item; is = e; has = at.has })
      | inr r ↦ last r.0 r.2
    ]
  where
    last : (j : ℕ) → slice_get (x ∷ []) j ≡ Some at.item → ⊥
    last zero e = not (subst P (sym (same_Some _ _ e)) at.has)
    last (suc j) e = absurd (none-some at.item e)

pub none_of_all : {X : Type 0} (P : X → Type 0) (xs ys : List X) → NoneStands P xs → xs ≡ ys → ¬ Any P ys
none_of_all P xs ys none e any = let at = place_of_any P ys any in none at.0 (subst (λ zs. StandsAt P zs at.0) (sym e) at.1)
