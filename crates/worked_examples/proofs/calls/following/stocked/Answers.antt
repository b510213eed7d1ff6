use Rattle.std.proofs.Common.{List, subst, sym}
use Rattle.object_tree.specs.declared.object.Object.{Object}
use Rattle.object_tree.specs.Typed.{AreTyped}
use Rattle.worked_examples.proofs.calls.following.stocked.Goals as goal

-- nothing is there at first, and each creation keeps the values typed
pub returns : goal.returns
returns c =
    let Typed : List Object → Type 0 = AreTyped c.args.meta.now in
    let none : AreTyped c.args.meta.now c.new-tree.result = subst Typed (sym c.new-tree.ensures) (λ o x l is. absurd (cc is.is)) in
    c.create-5.ensures (c.create-4.ensures (c.create-3.ensures (c.create-2.ensures (c.create.ensures none))))
