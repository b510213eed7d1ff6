use Rattle.std.proofs.Common.{List, sym, subst}
use Rattle.object_tree.specs.declared.object.Object.{Object}
use Rattle.object_tree.specs.code.Kept.{Kept}
use Rattle.object_tree.specs.Moving.{AreWhole}
use Rattle.object_tree.specs.Typed.{AreTyped}
use Rattle.object_tree.proofs.Moving.{kept-in_loop, typed-in_loop}
use Rattle.object_tree.proofs.tree.Tree.set_home.Goals as goal

pub invariant_of-self : goal.invariant_of-self
invariant_of-self c =
    let whole = subst (λ (xs : List Object). AreWhole c.args.objects.now xs) (sym c.self.view_is) c.requires in
    subst (λ (xs : List Object). Kept c.self.inside.names xs) (sym c.set_homes.ensures) (kept-in_loop c.args.home c.self.inside.names c.args.objects.now c.self.inside.objects whole c.self.invariant)

pub returns-clause-typed : goal.returns-clause-typed
returns-clause-typed c =
    λ p all. subst (λ (xs : List Object). AreTyped p xs) (sym c.set_homes.ensures) (typed-in_loop c.args.home p c.args.objects.now c.self.inside.objects (subst (λ (xs : List Object). AreTyped p xs) (sym c.self.view_is) all))
