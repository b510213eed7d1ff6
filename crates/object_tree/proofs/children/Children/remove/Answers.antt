use Rattle.std.proofs.Common.{◌≡◌, ◌<◌, ap, ◌∙◌, List, ℕ, length, arith}
use Rattle.std.specs.List.{remove}
use Rattle.std.specs.VecDeque.{deque_len}
use Rattle.object_tree.specs.declared.children.Adoption.{Adoption}
use Rattle.object_tree.specs.Children.{without}
use Rattle.object_tree.specs.code.Adoptions.{adopted}
use Rattle.object_tree.proofs.Lists.{on_some}
use Rattle.object_tree.proofs.Adoptions.{remove-adopted, length-adopted}
use Rattle.object_tree.proofs.children.Children.remove.Goals as goal

pub returns-in-Some : goal.returns-in-Some
returns-in-Some c =
    let both : (remove c.args.self.now c.in-Some.place ≡ without c.args.child c.args.self.now) × (c.in-Some.place < length c.args.self.now) = rw c.in-Some.is at c.place.ensures in
    let long = c.self.inside.items.ok.0 in
    let none : Adoption = record { number = 0; child = 0 } in
    let room : c.in-Some.place < deque_len c.self.inside.items = omega (arith, both.1, long, length-adopted c.self.inside.items.items, ap (λ (ks : List ℕ). length ks) c.self.view_is) in
    ap adopted (on_some c.remove.result _ (c.remove.ensures.succeeds none room) c.remove.ensures.items)
    ∙ remove-adopted c.self.inside.items.items c.in-Some.place
    ∙ ap (λ (ks : List ℕ). remove ks c.in-Some.place) c.self.view_is
    ∙ both.0
