use Rattle.std.specs.Prelude.{Any, ◌⊎◌}
use Rattle.syntax_trees.specs.declared.program.Signal.{Signal}
use Rattle.syntax_trees.specs.declared.program.Slot.{Slot}
use Rattle.class_outlines.specs.Conditions.{LacksPropertyType}
use Rattle.class_outlines.specs.DeclaredKinds.{LacksType}
use Rattle.class_outlines.specs.Outlines.{types_of}
use Rattle.std.proofs.Common.{inl, inr}
use Rattle.class_outlines.specs.declared.fault.MetaFault.TheVariants as fault
use Rattle.class_outlines.proofs.Offending.{or_offence_in}
use Rattle.meta_objects.proofs.unknown_types.unknown_type_in.Goals as goal

pub returns-in-Some : goal.returns-in-Some
returns-in-Some c = (inl c.in-Some.ensures.0, c.in-Some.ensures.1)

pub returns-in-Some-unknown_in_signals : goal.returns-in-Some-unknown_in_signals
returns-in-Some-unknown_in_signals c = (inr (inl c.in-Some-unknown_in_signals.ensures.0), c.in-Some-unknown_in_signals.ensures.1)

pub returns-in-None : goal.returns-in-None
returns-in-None c =
    let signals = Any (λ (s : Signal). Any (LacksType c.args.outlines.now) (types_of s.parameters)) c.args.class.now.signals in
    let slots = Any (λ (s : Slot). Any (LacksType c.args.outlines.now) (types_of s.parameters)) c.args.class.now.slots in
    or_offence_in (Any (LacksPropertyType c.args.outlines.now) c.args.class.now.properties) (signals ⊎ slots) c.in_default.ensures c.args.number c.args.class.now fault.NoType c.unknown_in_slots.result
    (or_offence_in signals slots c.in-None.ensures c.args.number c.args.class.now fault.NoType c.unknown_in_slots.result c.unknown_in_slots.ensures)
