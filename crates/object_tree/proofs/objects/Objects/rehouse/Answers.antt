use Rattle.std.proofs.Common.{ℕ, List, ◌++◌, subst, refl, sym, ap, ◌∙◌}
use Rattle.std.specs.Prelude.{IsSome}
use Rattle.object_tree.specs.declared.object.Object.{Object}
use Rattle.object_tree.specs.Objects.{change, life_of, with_life}
use Rattle.object_tree.specs.Family.{children_of}
use Rattle.object_tree.specs.Moving.{in_loop}
use Rattle.object_tree.specs.code.Slots.{as_it_was}
use Rattle.object_tree.proofs.Slots.{outcome-kept, key-found}
use Rattle.object_tree.proofs.Housed.{children-there, living-there, living-entry, held-with_life}
use Rattle.object_tree.proofs.objects.Objects.rehouse.Goals as goal

pub rehouse_in-requires : goal.rehouse_in-requires
rehouse_in-requires c =
    let k = key-found c.self.inside.entries.items c.deref.result.now c.args.object _ _ c.deref.ensures.value c.key_of.ensures c.in-Some.is in
    let (o, there) = living-there c.self.inside.slots c.self.inside.entries.items c.args.object c.in-Some.key k (subst (λ (xs : List Object). IsSome (life_of xs c.args.object)) (sym c.self.view_is) c.requires) in
    rw there refl

pub unreachable-requires : goal.unreachable-requires
unreachable-requires c =
    living-entry c.self.inside.slots c.self.inside.entries.items c.args.object (key-found c.self.inside.entries.items c.deref.result.now c.args.object _ _ c.deref.ensures.value c.key_of.ensures c.in-None.is) (subst (λ (xs : List Object). IsSome (life_of xs c.args.object)) (sym c.self.view_is) c.requires)

pub invariant_of-self-in-Some : goal.invariant_of-self-in-Some
invariant_of-self-in-Some c =
    let k = key-found c.self.inside.entries.items c.deref.result.now c.args.object _ _ c.deref.ensures.value c.key_of.ensures c.in-Some.is in
    (outcome-kept c.self.inside.slots c.rehouse_in.new.slots c.self.inside.entries.items c.in-Some.key c.args.object as_it_was (with_life (in_loop c.args.home)) c.in_ok-rehouse_in-in-Some.ensures.ok k (λ x. refl) (λ x. held-with_life (in_loop c.args.home) x) (λ name. refl) c.self.invariant).housed

pub returns-clause-ok : goal.returns-clause-ok
returns-clause-ok c =
    let k = key-found c.self.inside.entries.items c.deref.result.now c.args.object _ _ c.deref.ensures.value c.key_of.ensures c.in-Some.is in
    (outcome-kept c.self.inside.slots c.rehouse_in.new.slots c.self.inside.entries.items c.in-Some.key c.args.object as_it_was (with_life (in_loop c.args.home)) c.in_ok-rehouse_in-in-Some.ensures.ok k (λ x. refl) (λ x. held-with_life (in_loop c.args.home) x) (λ name. refl) c.self.invariant).shown
    ∙ ap (λ (xs : List Object). change c.args.object (with_life (in_loop c.args.home)) xs) c.self.view_is

pub returns-clause-list : goal.returns-clause-list
returns-clause-list c =
    let k = key-found c.self.inside.entries.items c.deref.result.now c.args.object _ _ c.deref.ensures.value c.key_of.ensures c.in-Some.is in
    c.in_ok-rehouse_in-in-Some.ensures.list
    ∙ ap (λ (ks : List ℕ). c.args.list.now.items ++ ks)
    (children-there c.self.inside.slots c.self.inside.entries.items c.args.object c.in-Some.key k ∙ ap (λ (xs : List Object). children_of xs c.args.object) c.self.view_is)
