use Rattle.std.proofs.Common.{refl}
use Rattle.syntax_trees.specs.declared.program.Class.{Class}
use Rattle.class_outlines.specs.Clashes.{IsTaken}
use Rattle.class_outlines.proofs.Choices.{fails}
use Rattle.class_outlines.proofs.Offending.{none_further, any_met, none_met}
use Rattle.meta_objects.proofs.clashes.first_taken.Goals as goal

pub loop-place-preserved : goal.loop-place-preserved
loop-place-preserved c =
    none_further (λ (class : Class). IsTaken class.name) c.args.classes.now c.args.classes.now refl c.loop-place.place c.index-classes-place.result
    c.loop-place.invariant c.loop-place-test.true c.index-classes-place.is (fails _ c.is_taken.ensures c.if-is_taken.false)

pub returns-then-is_taken : goal.returns-then-is_taken
returns-then-is_taken c = (
  any_met (λ (class : Class). IsTaken class.name) c.args.classes.now c.args.classes.now refl c.loop-place.place c.index-classes-place.result
      c.loop-place-test.true c.index-classes-place.is (c.is_taken.ensures.0 c.if-is_taken.true),
  c.loop-place-test.true,
)

pub returns : goal.returns
returns c =
    none_met (λ (class : Class). IsTaken class.name) c.args.classes.now c.args.classes.now refl c.loop-place.place c.loop-place.invariant c.loop-place-test.false
