use Rattle.std.proofs.Common.{List, sym, refl, subst}
use Rattle.object_tree.specs.declared.object.Object.{Object}
use Rattle.object_tree.specs.Objects.{written}
use Rattle.object_tree.specs.code.Kept.{Kept}
use Rattle.object_tree.specs.Typed.{AreTyped, FitsProperty}
use Rattle.object_tree.proofs.Keeping.{kept-change}
use Rattle.object_tree.proofs.TypedObjects.{typed-written}
use Rattle.object_tree.proofs.tree.Tree.set_value.Goals as goal

pub invariant_of-self : goal.invariant_of-self
invariant_of-self c =
    subst (λ (xs : List Object). Kept c.self.inside.names xs) (sym c.write.ensures) (kept-change c.self.inside.names c.args.object (written c.args.property c.args.value) c.self.inside.objects (λ l. refl) (λ l. refl) c.self.invariant)

pub returns-clause-typed : goal.returns-clause-typed
returns-clause-typed c = λ p fits all.
    let objects = c.self.inside.objects in
    subst (λ (xs : List Object). AreTyped p xs) (sym c.write.ensures) (typed-written p objects c.args.object c.args.property c.args.value
    (subst (λ (xs : List Object). FitsProperty xs c.args.object c.args.property c.args.value p) (sym c.self.view_is) fits)
    (subst (λ (xs : List Object). AreTyped p xs) (sym c.self.view_is) all))
