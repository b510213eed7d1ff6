use Rattle.std.proofs.Common.{List, sym, refl, subst}
use Rattle.object_tree.specs.declared.object.Object.{Object}
use Rattle.object_tree.specs.Objects.{blocked}
use Rattle.object_tree.specs.code.Kept.{Kept}
use Rattle.object_tree.specs.Typed.{AreTyped}
use Rattle.object_tree.proofs.Keeping.{kept-change}
use Rattle.object_tree.proofs.TypedObjects.{typed-change}
use Rattle.object_tree.proofs.tree.Tree.block.Goals as goal

pub invariant_of-self : goal.invariant_of-self
invariant_of-self c =
    subst (λ (xs : List Object). Kept c.self.inside.names xs) (sym c.block.ensures) (kept-change c.self.inside.names c.args.object (blocked c.args.on) c.self.inside.objects (λ l. refl) (λ l. refl) c.self.invariant)

pub returns-clause-typed : goal.returns-clause-typed
returns-clause-typed c =
    λ p all. subst (λ (xs : List Object). AreTyped p xs) (sym c.block.ensures) (typed-change p c.args.object (blocked c.args.on) c.self.inside.objects (λ l. refl) (subst (λ (xs : List Object). AreTyped p xs) (sym c.self.view_is) all))
