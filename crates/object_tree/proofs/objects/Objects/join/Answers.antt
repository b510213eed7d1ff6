use Rattle.std.proofs.Common.{List, subst, refl, sym, ap, ◌∙◌}
use Rattle.std.specs.Prelude.{IsSome}
use Rattle.object_tree.specs.declared.object.Object.{Object}
use Rattle.object_tree.specs.Objects.{change, life_of}
use Rattle.object_tree.specs.Family.{joined_by}
use Rattle.object_tree.specs.code.Slots.{as_it_was}
use Rattle.object_tree.proofs.Slots.{outcome-living, key-found}
use Rattle.object_tree.proofs.Housed.{living-there, living-entry, held-joined}
use Rattle.object_tree.proofs.objects.Objects.join.Goals as goal

pub join_in-requires : goal.join_in-requires
join_in-requires c =
    let k = key-found c.self.inside.entries.items c.deref.result.now c.args.parent _ _ c.deref.ensures.value c.key_of.ensures c.in-Some.is in
    let (o, there) = living-there c.self.inside.slots c.self.inside.entries.items c.args.parent c.in-Some.key k (subst (λ (xs : List Object). IsSome (life_of xs c.args.parent)) (sym c.self.view_is) c.requires) in
    rw there refl

pub unreachable-requires : goal.unreachable-requires
unreachable-requires c =
    living-entry c.self.inside.slots c.self.inside.entries.items c.args.parent (key-found c.self.inside.entries.items c.deref.result.now c.args.parent _ _ c.deref.ensures.value c.key_of.ensures c.in-None.is) (subst (λ (xs : List Object). IsSome (life_of xs c.args.parent)) (sym c.self.view_is) c.requires)

pub invariant_of-self-in-Some : goal.invariant_of-self-in-Some
invariant_of-self-in-Some c =
    let k = key-found c.self.inside.entries.items c.deref.result.now c.args.parent _ _ c.deref.ensures.value c.key_of.ensures c.in-Some.is in
    let (o, there) = living-there c.self.inside.slots c.self.inside.entries.items c.args.parent c.in-Some.key k (subst (λ (xs : List Object). IsSome (life_of xs c.args.parent)) (sym c.self.view_is) c.requires) in
    (outcome-living c.self.inside.slots c.join_in.new.slots c.self.inside.entries.items c.in-Some.key c.args.parent as_it_was (joined_by c.args.child) c.in_ok-adoption-in-Some.ensures.ok k (λ x. refl) (held-joined c.args.child) o there c.self.invariant).housed

pub returns-clause-ok : goal.returns-clause-ok
returns-clause-ok c =
    let k = key-found c.self.inside.entries.items c.deref.result.now c.args.parent _ _ c.deref.ensures.value c.key_of.ensures c.in-Some.is in
    let (o, there) = living-there c.self.inside.slots c.self.inside.entries.items c.args.parent c.in-Some.key k (subst (λ (xs : List Object). IsSome (life_of xs c.args.parent)) (sym c.self.view_is) c.requires) in
    (outcome-living c.self.inside.slots c.join_in.new.slots c.self.inside.entries.items c.in-Some.key c.args.parent as_it_was (joined_by c.args.child) c.in_ok-adoption-in-Some.ensures.ok k (λ x. refl) (held-joined c.args.child) o there c.self.invariant).shown ∙ ap (λ (xs : List Object). change c.args.parent (joined_by c.args.child) xs) c.self.view_is
