-- Finding a call in the layers of an index.
use Rattle.std.proofs.Common.{◌≡◌, ℕ, suc, ◌<◌, ◌+◌, List, length, drop, get_or, Option, Some, None, refl, ap, ◌∙◌, arith}
use Rattle.std.specs.Option.{option_or}
use Rattle.std.proofs.lemmas.Option.{slice_get_read}
use Rattle.name_indexes.specs.CallPlaces.{Index, Layers, place_at, place_by}
use Rattle.name_indexes.proofs.Prefixes.{drop_at}

module _ (layers : Layers) (i : ℕ) (layer : List Index) (inside : i < length layers) (is : layer ≡ get_or layers i layer) (count : ℕ) (name : List ℕ) where
  from_here : place_by (drop i layers) count name ≡ option_or (place_at layer count name) (place_by (drop (suc i) layers) count name)
  from_here = ap (λ (ls : Layers). place_by ls count name) (drop_at layers i layer (slice_get_read layers (length layers) i layer refl inside is))

  -- a layer that doesn't have it
  pub next_layer : place_at layer count name ≡ None → place_by (drop i layers) count name ≡ place_by (drop (i + 1) layers) count name
  next_layer none =
      let next : suc i ≡ i + 1 = omega arith in
      from_here
      ∙ ap (λ (o : Option ℕ). option_or o (place_by (drop (suc i) layers) count name)) none
      ∙ ap (λ (n : ℕ). place_by (drop n layers) count name) next

  -- one that has it
  pub this_layer : (place : ℕ) → place_at layer count name ≡ Some place → place_by (drop i layers) count name ≡ Some place
  this_layer place some = from_here ∙ ap (λ (o : Option ℕ). option_or o (place_by (drop (suc i) layers) count name)) some
