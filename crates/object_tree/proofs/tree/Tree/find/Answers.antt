use Rattle.std.proofs.Common.{◌≡◌, Some, sym, subst, ap, ◌∙◌}
use Rattle.name_indexes.specs.NamePlaces.{place_in}
use Rattle.object_tree.specs.code.Kept.{Kept}
use Rattle.object_tree.proofs.Keeping.{found-named, not_found-free}
use Rattle.object_tree.proofs.tree.Tree.find.Goals as goal

pub returns-in-Some : goal.returns-in-Some
returns-in-Some c =
    let place : place_in c.self.inside.names c.args.name.now ≡ Some c.new.result = sym c.find.ensures ∙ c.in-Some.is ∙ ap Some (sym c.new.ensures) in
    found-named c.args.self.now c.args.name.now c.new.result (subst (Kept c.self.inside.names) c.self.view_is c.self.invariant) place

pub returns-in-None : goal.returns-in-None
returns-in-None c =
    not_found-free c.args.self.now c.args.name.now (subst (Kept c.self.inside.names) c.self.view_is c.self.invariant) (sym c.find.ensures ∙ c.in-None.is)
