use Rattle.std.proofs.Common.{refl}
use Rattle.syntax_trees.specs.declared.program.Parameter.{Parameter}
use Rattle.class_outlines.specs.DeclaredKinds.{LacksType}
use Rattle.class_outlines.proofs.Offending.{none_further, any_met, none_met}
use Rattle.meta_objects.proofs.OwnMembers.{any_kind, kind_any}
use Rattle.meta_objects.proofs.unknown_types.unknown_of_parameter.Goals as goal

pub loop-place-preserved : goal.loop-place-preserved
loop-place-preserved c =
    none_further (λ (p : Parameter). LacksType c.args.outlines.now p.kind) c.args.parameters.now c.args.parameters.now refl c.loop-place.place c.index-parameters-place.result
    c.loop-place.invariant c.loop-place-test.true c.index-parameters-place.is c.in_default.ensures

pub returns-in-Some : goal.returns-in-Some
returns-in-Some c = (
  kind_any (LacksType c.args.outlines.now) c.args.parameters.now
      (any_met (λ (p : Parameter). LacksType c.args.outlines.now p.kind) c.args.parameters.now c.args.parameters.now refl c.loop-place.place c.index-parameters-place.result
      c.loop-place-test.true c.index-parameters-place.is c.in-Some.ensures.0),
  c.in-Some.ensures.1,
)

pub returns : goal.returns
returns c = λ any.
    none_met (λ (p : Parameter). LacksType c.args.outlines.now p.kind) c.args.parameters.now c.args.parameters.now refl c.loop-place.place c.loop-place.invariant c.loop-place-test.false
    (any_kind (LacksType c.args.outlines.now) c.args.parameters.now any)
