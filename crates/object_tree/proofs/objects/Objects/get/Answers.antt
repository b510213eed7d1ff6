use Rattle.std.proofs.Common.{List, ap, ◌∙◌}
use Rattle.std.specs.Prelude.{slice_get}
use Rattle.object_tree.specs.declared.object.Object.{Object}
use Rattle.object_tree.specs.Held.{held_in}
use Rattle.object_tree.proofs.Slots.{found-held, none-held, key-found}
use Rattle.object_tree.proofs.objects.Objects.get.Goals as goal

pub returns-in-Some : goal.returns-in-Some
returns-in-Some c =
    c.object_in.ensures
    ∙ found-held c.self.inside.slots c.self.inside.entries.items c.self.invariant c.args.object c.in-Some.key (key-found c.self.inside.entries.items c.deref.result.now c.args.object _ _ c.deref.ensures.value c.key_of.ensures c.in-Some.is)
    ∙ ap (λ (xs : List Object). held_in (slice_get xs c.args.object)) c.self.view_is

pub returns-in-None : goal.returns-in-None
returns-in-None c =
    none-held c.self.inside.slots c.self.inside.entries.items c.self.invariant c.args.object (key-found c.self.inside.entries.items c.deref.result.now c.args.object _ _ c.deref.ensures.value c.key_of.ensures c.in-None.is)
    ∙ ap (λ (xs : List Object). held_in (slice_get xs c.args.object)) c.self.view_is
