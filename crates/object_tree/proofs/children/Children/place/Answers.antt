use Rattle.std.proofs.Common.{◌≡◌, List, ℕ, Some, sym, ap, ◌∙◌}
use Rattle.std.specs.Prelude.{slice_get}
use Rattle.std.specs.List.{position}
use Rattle.std.specs.Bool.{◌==◌}
use Rattle.object_tree.proofs.Adoptions.{position-adopted}
use Rattle.object_tree.proofs.Lists.{is-child, remove-at, place-length, place-found}
use Rattle.object_tree.proofs.children.Children.place.Goals as goal

pub returns-then-is_at : goal.returns-then-is_at
returns-then-is_at c =
    let at : slice_get c.args.self.now c.likely_place-place.result ≡ Some c.args.child = is-child c.args.child _ (sym c.is_at.ensures ∙ c.if-is_at.true) in
    (remove-at c.args.child c.args.self.now c.likely_place-place.result c.requires at, place-length c.args.self.now c.likely_place-place.result c.args.child at)

pub returns-else-is_at : goal.returns-else-is_at
returns-else-is_at c = place-found c.args.child c.args.self.now c.first_of.result (c.first_of.ensures ∙ position-adopted c.args.child c.self.inside.items.items ∙ ap (λ (ks : List ℕ). position (λ k. k == c.args.child) ks) c.self.view_is)
