use Rattle.std.proofs.Common.{List, refl, sym, ap, ◌∙◌}
use Rattle.object_tree.specs.declared.object.Object.{Object}
use Rattle.object_tree.specs.Objects.{change}
use Rattle.object_tree.specs.Family.{dead}
use Rattle.object_tree.specs.code.Slots.{as_it_was}
use Rattle.object_tree.proofs.Slots.{change-none, get-none, no_entry, key-found}
use Rattle.object_tree.proofs.GivenUp.{outcome-given}
use Rattle.object_tree.proofs.objects.Objects.end_life.Goals as goal

pub invariant_of-self : goal.invariant_of-self
invariant_of-self c = (outcome-given c.self.inside.slots c.end_in.new.slots c.give_up.new.slots c.self.inside.entries.items c.in-Some.key c.args.object as_it_was (dead) c.end_in.ensures c.give_up.ensures (key-found c.self.inside.entries.items c.deref.result.now c.args.object _ _ c.deref.ensures.value c.key_of.ensures c.in-Some.is) (λ x. refl) (λ name. refl) c.self.invariant).housed

pub returns-in-Some : goal.returns-in-Some
returns-in-Some c = (outcome-given c.self.inside.slots c.end_in.new.slots c.give_up.new.slots c.self.inside.entries.items c.in-Some.key c.args.object as_it_was (dead) c.end_in.ensures c.give_up.ensures (key-found c.self.inside.entries.items c.deref.result.now c.args.object _ _ c.deref.ensures.value c.key_of.ensures c.in-Some.is) (λ x. refl) (λ name. refl) c.self.invariant).shown ∙ ap (λ (xs : List Object). change c.args.object (dead) xs) c.self.view_is

pub returns-in_default : goal.returns-in_default
returns-in_default c =
    sym (ap (λ (xs : List Object). change c.args.object (dead) xs) (sym c.self.view_is)
    ∙ change-none c.args.object (dead) _ (get-none c.self.inside.slots 0 c.args.object c.self.inside.entries.items (no_entry c.self.inside.entries.items c.args.object (key-found c.self.inside.entries.items c.deref.result.now c.args.object _ _ c.deref.ensures.value c.key_of.ensures c.in_default.is)))
    ∙ c.self.view_is)
