use Rattle.std.proofs.Common.{List, subst, ap, ◌∙◌}
use Rattle.std.specs.Prelude.{slice_get}
use Rattle.object_tree.specs.declared.object.Object.{Object}
use Rattle.object_tree.specs.Family.{children_of}
use Rattle.object_tree.specs.Forest.{Forest}
use Rattle.object_tree.proofs.Keeping.{first-child}
use Rattle.object_tree.proofs.tree.Tree.first_child.Goals as goal

pub returns-clause-lives : goal.returns-clause-lives
returns-clause-lives c =
    first-child c.args.self.now c.args.parent c.first_child.result (subst Forest c.self.view_is c.self.invariant.forest)
    (c.first_child.ensures ∙ ap (λ (xs : List Object). slice_get (children_of xs c.args.parent) 0) c.self.view_is)
