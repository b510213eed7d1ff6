use Rattle.std.proofs.Common.{◌≡◌, drop}
use Rattle.name_indexes.specs.CallPlaces.{place_by}
use Rattle.name_indexes.proofs.call_index.find_among.Given as goal

-- what is found is found in the layers that are left
abbrev pub invariant-loop-layer : goal.invariant-loop-layer
invariant-loop-layer l = place_by l.layers l.count l.name ≡ place_by (drop l.layer-index l.layers) l.count l.name
