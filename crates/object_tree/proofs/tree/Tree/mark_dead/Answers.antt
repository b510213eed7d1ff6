use Rattle.std.proofs.Common.{List, sym, subst}
use Rattle.object_tree.specs.declared.object.Object.{Object}
use Rattle.object_tree.specs.code.Kept.{Kept}
use Rattle.object_tree.specs.Typed.{AreTyped}
use Rattle.object_tree.proofs.Keeping.{kept-died}
use Rattle.object_tree.proofs.TypedObjects.{typed-died}
use Rattle.object_tree.proofs.tree.Tree.mark_dead.Goals as goal

pub invariant_of-self : goal.invariant_of-self
invariant_of-self c =
    subst (λ (xs : List Object). Kept c.self.inside.names xs) (sym c.mark_dead.ensures) (kept-died c.self.inside.names c.args.object c.self.inside.objects c.self.invariant)

pub returns-clause-typed : goal.returns-clause-typed
returns-clause-typed c =
    λ p all. subst (λ (xs : List Object). AreTyped p xs) (sym c.mark_dead.ensures) (typed-died p c.args.object c.self.inside.objects (subst (λ (xs : List Object). AreTyped p xs) (sym c.self.view_is) all))

pub mark_dead-requires : goal.mark_dead-requires
mark_dead-requires c = c.self.invariant.forest
