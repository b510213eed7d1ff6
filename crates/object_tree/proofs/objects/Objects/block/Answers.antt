use Rattle.std.proofs.Common.{List, refl, sym, ap, ◌∙◌}
use Rattle.object_tree.specs.declared.object.Object.{Object}
use Rattle.object_tree.specs.Objects.{change, with_life, blocked}
use Rattle.object_tree.specs.code.Slots.{as_it_was}
use Rattle.object_tree.proofs.Slots.{outcome-kept, change-none, get-none, no_entry, key-found}
use Rattle.object_tree.proofs.Housed.{held-with_life}
use Rattle.object_tree.proofs.objects.Objects.block.Goals as goal

pub invariant_of-self : goal.invariant_of-self
invariant_of-self c = (outcome-kept c.self.inside.slots c.block_in.new.slots c.self.inside.entries.items c.in-Some.key c.args.object as_it_was (with_life (blocked c.args.on)) c.block_in.ensures (key-found c.self.inside.entries.items c.deref.result.now c.args.object _ _ c.deref.ensures.value c.key_of.ensures c.in-Some.is) (λ x. refl) (λ x. held-with_life (blocked c.args.on) x) (λ name. refl) c.self.invariant).housed

pub returns-in-Some : goal.returns-in-Some
returns-in-Some c = (outcome-kept c.self.inside.slots c.block_in.new.slots c.self.inside.entries.items c.in-Some.key c.args.object as_it_was (with_life (blocked c.args.on)) c.block_in.ensures (key-found c.self.inside.entries.items c.deref.result.now c.args.object _ _ c.deref.ensures.value c.key_of.ensures c.in-Some.is) (λ x. refl) (λ x. held-with_life (blocked c.args.on) x) (λ name. refl) c.self.invariant).shown ∙ ap (λ (xs : List Object). change c.args.object (with_life (blocked c.args.on)) xs) c.self.view_is

pub returns-in_default : goal.returns-in_default
returns-in_default c =
    sym (ap (λ (xs : List Object). change c.args.object (with_life (blocked c.args.on)) xs) (sym c.self.view_is)
    ∙ change-none c.args.object (with_life (blocked c.args.on)) _ (get-none c.self.inside.slots 0 c.args.object c.self.inside.entries.items (no_entry c.self.inside.entries.items c.args.object (key-found c.self.inside.entries.items c.deref.result.now c.args.object _ _ c.deref.ensures.value c.key_of.ensures c.in_default.is)))
    ∙ c.self.view_is)
