use Rattle.std.proofs.Common.{◌≡◌, ◌<◌, ◌≤◌, ⊎_elim, List, ℕ, length, Some, None, is_some, option_map, sym, ap, ◌∙◌, arith}
use Rattle.std.specs.Prelude.{slice_get}
use Rattle.std.proofs.lemmas.Bool.{cases_lt, false≢true}
use Rattle.std.proofs.lemmas.Option.{slice_get-get_or, slice_get_past}
use Rattle.object_tree.specs.declared.children.Adoption.{Adoption}
use Rattle.object_tree.specs.Children.{is_child}
use Rattle.object_tree.proofs.Adoptions.{get-adopted}
use Rattle.object_tree.proofs.children.Children.is_at.Goals as goal

pub returns-in-Some : goal.returns-in-Some
returns-in-Some c =
    let long = c.self.inside.items.ok.0 in
    let some = ap is_some c.in-Some.is in
    let less = c.get.ensures.variant.0 some in
    let within : c.args.place < length c.self.inside.items.items = omega (arith, less, long) in
    let same = rw c.in-Some.is at c.get.ensures.lookup in
    let at : slice_get c.self.inside.items.items c.args.place ≡ Some c.in-Some.adoption.now = slice_get-get_or c.self.inside.items.items c.args.place c.in-Some.adoption.now within ∙ ap Some (sym same) in
    c.eq.ensures ∙ sym (ap (λ (ks : List ℕ). is_child c.args.child (slice_get ks c.args.place)) (sym c.self.view_is)
    ∙ ap (is_child c.args.child) (get-adopted c.self.inside.items.items c.args.place ∙ ap (option_map (λ (a : Adoption). a.child)) at))

pub returns-in-None : goal.returns-in-None
returns-in-None c =
    let long = c.self.inside.items.ok.0 in
    let past : length c.self.inside.items.items ≤ c.args.place = ⊎_elim
    (λ (w : c.args.place < length c.self.inside.items.items). absurd (false≢true (ap is_some (sym c.in-None.is) ∙ c.get.ensures.variant.1 (omega (arith, w, long)))))
    (λ (h : length c.self.inside.items.items ≤ c.args.place). h)
    (cases_lt c.args.place (length c.self.inside.items.items)) in
    let at : slice_get c.self.inside.items.items c.args.place ≡ None = slice_get_past c.self.inside.items.items c.args.place past in
    sym (ap (λ (ks : List ℕ). is_child c.args.child (slice_get ks c.args.place)) (sym c.self.view_is)
    ∙ ap (is_child c.args.child) (get-adopted c.self.inside.items.items c.args.place ∙ ap (option_map (λ (a : Adoption). a.child)) at))
