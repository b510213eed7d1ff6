use Rattle.std.proofs.Common.{refl}
use Rattle.class_outlines.proofs.OwnPlaces.{method_declared, property_declared}
use Rattle.class_outlines.proofs.twin_members.twin_offence.Goals as goal

pub returns-in-Methods : goal.returns-in-Methods
returns-in-Methods c =
    rw c.twin.ensures
    (record {
      leads = refl;
      declared = method_declared c.args.program.now c.args.before.now c.args.outline.now c.requires.next c.in-Methods.twins (rw c.in-Methods.is at c.requires.twins)
          c.saturating_sub-number.result c.saturating_sub.result c.saturating_sub-number.ensures (cc (c.saturating_sub.ensures, c.inherited_methods-inherited.ensures)) c.own_method-member.result c.own_method-member.ensures;
    })

pub returns-in-Properties : goal.returns-in-Properties
returns-in-Properties c =
    rw c.twin-in-Properties.ensures
    (record {
      leads = refl;
      declared = property_declared c.args.program.now c.args.before.now c.args.outline.now c.requires.next c.in-Properties.twins (rw c.in-Properties.is at c.requires.twins)
          c.saturating_sub-number.result c.saturating_sub-in-Properties.result c.saturating_sub-number.ensures (cc (c.saturating_sub-in-Properties.ensures, c.inherited_properties-inherited.ensures));
    })
