-- The changed ones of some properties.
use Rattle.std.proofs.Common.{◌≡◌, List, [], ◌∷◌, ◌++◌, refl, ap}
use Rattle.object_tree.specs.declared.object.Object.{Object}
use Rattle.binding_graph.specs.declared.place.Place.{Place}
use Rattle.prop_bindings.specs.Changes.{ReadsAlike, AreChanged, none_changed, one_changed, one_stayed}

-- one more property, which changed, or didn't
pub changed-more : (old new : List Object) (p : Place) (ps cs : List Place) → AreChanged old new ps cs → (¬ ReadsAlike old new p) → AreChanged old new (ps ++ p ∷ []) (cs ++ p ∷ [])
changed-more old new p ps cs none_changed apart = one_changed apart none_changed
changed-more old new p ps cs (one_changed {ps = qs} {changed = ds} other h) apart = one_changed other (changed-more old new p qs ds h apart)
changed-more old new p ps cs (one_stayed {ps = qs} other h) apart = one_stayed other (changed-more old new p qs cs h apart)

pub stayed-more : (old new : List Object) (p : Place) (ps cs : List Place) → AreChanged old new ps cs → ReadsAlike old new p → AreChanged old new (ps ++ p ∷ []) cs
stayed-more old new p ps cs none_changed same = one_stayed same none_changed
stayed-more old new p ps cs (one_changed {ps = qs} {changed = ds} other h) same = one_changed other (stayed-more old new p qs ds h same)
stayed-more old new p ps cs (one_stayed {ps = qs} other h) same = one_stayed other (stayed-more old new p qs cs h same)

-- there is one such list
pub changed-once : (old new : List Object) (ps a b : List Place) → AreChanged old new ps a → AreChanged old new ps b → a ≡ b
changed-once old new ps a b none_changed none_changed = refl
changed-once old new ps a b (one_changed {p = p} {ps = qs} {changed = x} moved h) (one_changed {changed = y} other g) = ap (λ (zs : List Place). p ∷ zs) (changed-once old new qs x y h g)
changed-once old new ps a b (one_changed moved h) (one_stayed same g) = absurd (moved same)
changed-once old new ps a b (one_stayed same h) (one_changed moved g) = absurd (moved same)
changed-once old new ps a b (one_stayed {ps = qs} same h) (one_stayed other g) = changed-once old new qs a b h g
