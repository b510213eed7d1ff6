-- What stands at a place of a map whose keys are the numbers of properties.
use Rattle.std.proofs.Common.{◌≡◌, ◌∙◌, ℕ, Some, ap, subst}
use Rattle.std.specs.Prelude.{slice_get}
use Rattle.std.specs.Cmp.{IsEquivalence}
use Rattle.std.proofs.lemmas.Map.Entries.{lookup_from_place}
use Rattle.indexmap.specs.IndexMap.{IndexMap, IsUnique, get}
use Rattle.binding_graph.specs.Places.{property_of}
use Rattle.binding_graph.specs.code.Keys.{same_key}
use Rattle.binding_graph.proofs.Keyed.{key-refl, key-same, same_place-sym}

same_key-laws : IsEquivalence same_key
same_key-laws = record {
  refl = key-refl;
  symm = λ a b. same_place-sym (property_of a.0 a.1) (property_of b.0 b.1);
  congr = λ a b c e. ap (λ (k : ℕ × ℕ). same_key k c) (key-same a b e);
}

pub found-at : {X S : Type 0} (values : IndexMap (ℕ × ℕ) X S) → IsUnique same_key values → (i : ℕ) (e : (ℕ × ℕ) × X) (key : ℕ × ℕ) → slice_get values.entries i ≡ Some e → e.0 ≡ key → get same_key values key ≡ Some e.1
found-at values unique i e key at is = subst (λ (k : ℕ × ℕ). get same_key values k ≡ Some e.1) is (lookup_from_place same_key-laws values.entries i e.0 e.1 unique at)

pub same_pair : (a : ℕ × ℕ) (x y : ℕ) → a.0 ≡ x → a.1 ≡ y → a ≡ (x, y)
same_pair a x y first second = ap (λ (z : ℕ). (z, a.1)) first ∙ ap (λ (z : ℕ). (x, z)) second
