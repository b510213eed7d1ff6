use Rattle.std.proofs.Common.{List, ap, ◌∙◌}
use Rattle.object_tree.specs.declared.object.Object.{Object}
use Rattle.object_tree.specs.declared.slot.ObjectRecord.{ObjectRecord}
use Rattle.object_tree.specs.Objects.{name_of}
use Rattle.object_tree.specs.code.Slots.{name_at}
use Rattle.object_tree.proofs.Slots.{names-shown}
use Rattle.object_tree.proofs.objects.Objects.name.Goals as goal

pub returns : goal.returns
returns c =
    c.name_in.ensures
    ∙ ap (λ (es : List ObjectRecord). name_at es c.args.object) c.deref.ensures.value
    ∙ names-shown c.self.inside.slots c.self.inside.entries.items c.self.invariant c.args.object
    ∙ ap (λ (xs : List Object). name_of xs c.args.object) c.self.view_is
