use Rattle.std.proofs.Common.{List, refl, sym, subst, ap, ◌∙◌}
use Rattle.object_tree.specs.declared.object.Object.{Object}
use Rattle.object_tree.specs.Objects.{change}
use Rattle.object_tree.specs.Family.{left_by}
use Rattle.object_tree.specs.code.Slots.{as_it_was}
use Rattle.object_tree.proofs.Slots.{change-none, get-none, no_entry, key-found}
use Rattle.object_tree.specs.Forest.{HasDistinct}
use Rattle.object_tree.proofs.Housed.{distinct-in}
use Rattle.object_tree.proofs.GivenUp.{outcome-given}
use Rattle.object_tree.proofs.objects.Objects.lose.Goals as goal

pub invariant_of-self : goal.invariant_of-self
invariant_of-self c = (outcome-given c.self.inside.slots c.lose_in.new.slots c.give_up.new.slots c.self.inside.entries.items c.in-Some.key c.args.parent as_it_was (left_by c.args.child) c.lose_in.ensures c.give_up.ensures (key-found c.self.inside.entries.items c.deref.result.now c.args.parent _ _ c.deref.ensures.value c.key_of.ensures c.in-Some.is) (λ x. refl) (λ name. refl) c.self.invariant).housed

pub returns-in-Some : goal.returns-in-Some
returns-in-Some c = (outcome-given c.self.inside.slots c.lose_in.new.slots c.give_up.new.slots c.self.inside.entries.items c.in-Some.key c.args.parent as_it_was (left_by c.args.child) c.lose_in.ensures c.give_up.ensures (key-found c.self.inside.entries.items c.deref.result.now c.args.parent _ _ c.deref.ensures.value c.key_of.ensures c.in-Some.is) (λ x. refl) (λ name. refl) c.self.invariant).shown ∙ ap (λ (xs : List Object). change c.args.parent (left_by c.args.child) xs) c.self.view_is

pub returns-in_default : goal.returns-in_default
returns-in_default c =
    sym (ap (λ (xs : List Object). change c.args.parent (left_by c.args.child) xs) (sym c.self.view_is)
    ∙ change-none c.args.parent (left_by c.args.child) _ (get-none c.self.inside.slots 0 c.args.parent c.self.inside.entries.items (no_entry c.self.inside.entries.items c.args.parent (key-found c.self.inside.entries.items c.deref.result.now c.args.parent _ _ c.deref.ensures.value c.key_of.ensures c.in_default.is)))
    ∙ c.self.view_is)

pub lose_in-requires : goal.lose_in-requires
lose_in-requires c =
    distinct-in c.self.inside.slots c.self.inside.entries.items c.args.parent c.in-Some.key (key-found c.self.inside.entries.items c.deref.result.now c.args.parent _ _ c.deref.ensures.value c.key_of.ensures c.in-Some.is)
    (subst (λ (xs : List Object). HasDistinct xs c.args.parent) (sym c.self.view_is) c.requires)
