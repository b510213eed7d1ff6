use Rattle.std.proofs.Common.{◌↔◌, IsTrue, List, subst}
use Rattle.object_tree.specs.declared.object.Object.{Object}
use Rattle.object_tree.specs.Typed.{ReadAs}
use Rattle.object_tree.proofs.tree.Tree.have_types.Goals as goal

pub returns : goal.returns
returns c =
    subst (λ (xs : List Object). IsTrue c.have_types.result ↔ ReadAs c.args.meta.now xs c.args.values.now c.args.types.now) c.self.view_is c.have_types.ensures
