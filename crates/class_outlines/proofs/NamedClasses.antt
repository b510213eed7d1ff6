-- Looking up classes in an index of their names.
use Rattle.std.proofs.Common.{◌≡◌, ℕ, List, Some, None, slice_get, subst, sym, ◌∙◌}
use Rattle.std.proofs.lemmas.Option.{none-some, same_Some}
use Rattle.class_outlines.specs.declared.outline.Outline.{Outline}
use Rattle.class_outlines.specs.Indexed.{IndexesNames}
use Rattle.name_indexes.specs.NamePlaces.{place_in}
use Rattle.name_indexes.specs.CallPlaces.{Index}
use Rattle.name_indexes.specs.Places.{StandsFirst, NoneStands, Found, IsPlace}

module _ (classes : List Outline) (index : Index) (by : IndexesNames classes index) (name : List ℕ) where
  pub no_class : place_in index name ≡ None → NoneStands (λ (o : Outline). o.name ≡ name) classes
  no_class e = subst (IsPlace (λ (o : Outline). o.name ≡ name) classes) e (by name)

  first_class : (c : ℕ) → place_in index name ≡ Some c → StandsFirst (λ (o : Outline). o.name ≡ name) classes c
  first_class c e = subst (IsPlace (λ (o : Outline). o.name ≡ name) classes) e (by name)

  pub a_class : (c : ℕ) (o : Outline) → place_in index name ≡ Some c → slice_get classes c ≡ Some o → Found (λ (o : Outline). o.name ≡ name) classes c o
  a_class c o e is = let first = first_class c e in record { first = first; is = same_Some _ _ (sym first.at.is ∙ is) }

  -- a class that the index names is there
  pub is_there : (c : ℕ) → place_in index name ≡ Some c → ¬ (slice_get classes c ≡ None)
  is_there c e none = let first = first_class c e in none-some first.at.item (sym none ∙ first.at.is)
