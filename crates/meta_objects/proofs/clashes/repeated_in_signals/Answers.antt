use Rattle.syntax_trees.specs.declared.program.Signal.{Signal}
use Rattle.class_outlines.specs.Conditions.{RepeatsName}
use Rattle.class_outlines.specs.declared.fault.MetaFault.TheVariants as fault
use Rattle.class_outlines.specs.declared.offence.Member.TheVariants as member
use Rattle.class_outlines.proofs.Offending.{within, none_further, any_met, none_met, offends_in}
use Rattle.meta_objects.proofs.clashes.repeated_in_signals.Goals as goal

pub loop-place-preserved : goal.loop-place-preserved
loop-place-preserved c =
    none_further (λ (signal : Signal). RepeatsName signal.parameters) c.args.class.now.signals c.as_slice-signal-items.result.now c.as_slice-signal-items.ensures c.loop-place.place c.signal-item.result
    c.loop-place.invariant c.loop-place-test.true c.signal-item.is (rw c.as_slice.ensures at c.in_default.ensures)

pub returns-in-Some : goal.returns-in-Some
returns-in-Some c = (
  any_met (λ (signal : Signal). RepeatsName signal.parameters) c.args.class.now.signals c.as_slice-signal-items.result.now c.as_slice-signal-items.ensures c.loop-place.place c.signal-item.result
      c.loop-place-test.true c.signal-item.is (rw c.as_slice.ensures at c.in-Some.ensures).0,
  offends_in c.args.number c.args.class.now fault.DuplicateMember (member.Signal c.loop-place.place)
      (within (λ (signal : Signal). RepeatsName signal.parameters) c.args.class.now.signals c.as_slice-signal-items.result.now c.as_slice-signal-items.ensures c.loop-place.place c.loop-place-test.true)
      c.in-Some.breach (rw c.as_slice.ensures at c.in-Some.ensures).1 c.of.result c.of.ensures,
)

pub returns : goal.returns
returns c =
    none_met (λ (signal : Signal). RepeatsName signal.parameters) c.args.class.now.signals c.as_slice-signal-items.result.now c.as_slice-signal-items.ensures c.loop-place.place c.loop-place.invariant c.loop-place-test.false
