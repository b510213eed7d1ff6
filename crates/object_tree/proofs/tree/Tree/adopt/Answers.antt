use Rattle.std.proofs.Common.{List, Option, refl, sym, ◌∙◌, ap, subst}
use Rattle.std.specs.Prelude.{IsSome}
use Rattle.object_tree.specs.declared.life.Life.{Life}
use Rattle.object_tree.proofs.Changing.{life-of-lives}
use Rattle.object_tree.specs.declared.object.Object.{Object}
use Rattle.object_tree.specs.Adopting.{MayAdopt}
use Rattle.object_tree.specs.Objects.{Lives}
use Rattle.object_tree.specs.Family.{moved}
use Rattle.object_tree.specs.code.Kept.{Kept}
use Rattle.object_tree.specs.Typed.{AreTyped}
use Rattle.object_tree.proofs.Above.{false-not}
use Rattle.object_tree.proofs.Errors.{adopts-short}
use Rattle.object_tree.proofs.Keeping.{kept-moved, moves-by, adopts-moved}
use Rattle.object_tree.proofs.TypedObjects.{typed-moved}
use Rattle.object_tree.proofs.tree.Tree.adopt.Goals as goal

pub invariant_of-self-2 : goal.invariant_of-self-2
invariant_of-self-2 c =
    let objects : List Object = c.self.inside.objects in
    let owner = subst (λ (xs : List Object). Lives xs c.args.parent c.in-Some-Some.field-0-0-0.now c.in-Some-Some.owner.now) (sym c.self.view_is) c.in-Some-Some.ensures.value in
    let child = subst (λ (xs : List Object). Lives xs c.args.child c.in-Some-Some.field-0-0-1.now c.in-Some-Some.owned.now) (sym c.self.view_is) c.in-Some-Some.ensures'.value in
    subst (λ (xs : List Object). Kept c.self.inside.names xs) (sym c.in_ok-move_under.ensures.ok) (kept-moved c.self.inside.names c.args.parent c.args.child objects
    (moves-by objects c.args.meta.now c.args.parent c.args.child c.in-Some-Some.field-0-0-0.now c.in-Some-Some.field-0-0-1.now c.in-Some-Some.owner.now c.in-Some-Some.owned.now c.self.invariant.forest owner child c.in_ok-may_adopt.ensures (false-not c.is_under.ensures c.if-is_under.false)) c.self.invariant)

pub returns-in_err-move_under-clause-value : goal.returns-in_err-move_under-clause-value
returns-in_err-move_under-clause-value c =
    λ u v x y lx ly. adopts-short c.args.meta.now c.args.parent c.args.child x y c.args.self.now _ c.from_residual-in_err-move_under.result c.from_residual-in_err-move_under.ensures.1 (c.in_err-move_under.ensures.err ∙ c.self.view_is)

pub returns-clause-value : goal.returns-clause-value
returns-clause-value c = λ u v x y lx ly.
    let may : MayAdopt c.args.meta.now c.args.self.now c.args.parent c.args.child c.in-Some-Some.owner.now c.in-Some-Some.owned.now =
    subst (λ (xs : List Object). MayAdopt c.args.meta.now xs c.args.parent c.args.child c.in-Some-Some.owner.now c.in-Some-Some.owned.now) c.self.view_is c.in_ok-may_adopt.ensures in
    adopts-moved c.args.meta.now c.args.self.now c.move_under.new.self c.args.parent c.args.child u v c.in-Some-Some.field-0-0-0.now c.in-Some-Some.field-0-0-1.now x y c.in-Some-Some.owner.now c.in-Some-Some.owned.now lx ly c.in-Some-Some.ensures.value c.in-Some-Some.ensures'.value may
    (false-not c.is_under.ensures c.if-is_under.false)
    (c.in_ok-move_under.ensures.ok ∙ ap (λ (xs : List Object). moved c.args.parent c.args.child xs) c.self.view_is)

pub returns-clause-typed : goal.returns-clause-typed
returns-clause-typed c =
    λ p all. subst (λ (xs : List Object). AreTyped p xs) (sym c.in_ok-move_under.ensures.ok) (typed-moved p c.args.parent c.args.child c.self.inside.objects (subst (λ (xs : List Object). AreTyped p xs) (sym c.self.view_is) all))

pub move_under-requires-clause-forest : goal.move_under-requires-clause-forest
move_under-requires-clause-forest c = c.self.invariant.forest

pub move_under-requires-clause-lives : goal.move_under-requires-clause-lives
move_under-requires-clause-lives c =
    let objects : List Object = c.self.inside.objects in
    let owner = subst (λ (xs : List Object). Lives xs c.args.parent c.in-Some-Some.field-0-0-0.now c.in-Some-Some.owner.now) (sym c.self.view_is) c.in-Some-Some.ensures.value in
    subst (λ (there : Option Life). IsSome there) (sym (life-of-lives owner)) refl

pub move_under-requires-clause-elsewhere : goal.move_under-requires-clause-elsewhere
move_under-requires-clause-elsewhere c =
    let objects : List Object = c.self.inside.objects in
    let owner = subst (λ (xs : List Object). Lives xs c.args.parent c.in-Some-Some.field-0-0-0.now c.in-Some-Some.owner.now) (sym c.self.view_is) c.in-Some-Some.ensures.value in
    let child = subst (λ (xs : List Object). Lives xs c.args.child c.in-Some-Some.field-0-0-1.now c.in-Some-Some.owned.now) (sym c.self.view_is) c.in-Some-Some.ensures'.value in
    (moves-by objects c.args.meta.now c.args.parent c.args.child c.in-Some-Some.field-0-0-0.now c.in-Some-Some.field-0-0-1.now c.in-Some-Some.owner.now c.in-Some-Some.owned.now c.self.invariant.forest owner child c.in_ok-may_adopt.ensures (false-not c.is_under.ensures c.if-is_under.false)).elsewhere
