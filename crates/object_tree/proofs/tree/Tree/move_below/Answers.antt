use Rattle.std.proofs.Common.{◌≡◌, List, ℕ, None, sym, ap, ◌∙◌, subst}
use Rattle.object_tree.specs.declared.object.Object.{Object}
use Rattle.object_tree.specs.Family.{parent_of}
use Rattle.object_tree.specs.Moving.{AreBelow, AreWhole, all_in_loop}
use Rattle.object_tree.specs.Objects.{home_of}
use Rattle.object_tree.specs.code.Kept.{Kept}
use Rattle.object_tree.specs.Typed.{AreTyped}
use Rattle.object_tree.proofs.Moving.{kept-in_loop, typed-in_loop, whole-below}
use Rattle.object_tree.proofs.tree.Tree.move_below.Goals as goal

pub move_below-requires-clause-forest : goal.move_below-requires-clause-forest
move_below-requires-clause-forest c = c.self.invariant.forest

pub move_below-requires-clause-lives : goal.move_below-requires-clause-lives
move_below-requires-clause-lives c = ap (λ (xs : List Object). home_of xs c.args.object) c.self.view_is ∙ c.requires.lives

pub invariant_of-self-2 : goal.invariant_of-self-2
invariant_of-self-2 c =
    let objects = c.self.inside.objects in
    let os : List ℕ = c.in_ok-found.found.items in
    let root : parent_of objects c.args.object ≡ None = ap (λ (xs : List Object). parent_of xs c.args.object) c.self.view_is ∙ c.requires.root in
    let whole : AreWhole os objects = whole-below objects c.args.object root os c.in_ok-found.ensures.below in
    subst (λ (xs : List Object). Kept c.self.inside.names xs) (sym c.in_ok-found.ensures.moved) (kept-in_loop c.args.home c.self.inside.names os objects whole c.self.invariant)

pub returns-clause-below : goal.returns-clause-below
returns-clause-below c = subst (λ (xs : List Object). AreBelow xs c.args.object c.in_ok-found.found.items) c.self.view_is c.in_ok-found.ensures.below

pub returns-clause-moved : goal.returns-clause-moved
returns-clause-moved c = c.in_ok-found.ensures.moved ∙ ap (λ (xs : List Object). all_in_loop c.in_ok-found.found.items c.args.home xs) c.self.view_is

pub returns-clause-back : goal.returns-clause-back
returns-clause-back c = c.in_ok-found.ensures.back ∙ c.self.view_is

pub returns-clause-typed : goal.returns-clause-typed
returns-clause-typed c =
    λ p all. subst (λ (xs : List Object). AreTyped p xs) (sym c.in_ok-found.ensures.moved)
    (typed-in_loop c.args.home p c.in_ok-found.found.items c.self.inside.objects (subst (λ (xs : List Object). AreTyped p xs) (sym c.self.view_is) all))
