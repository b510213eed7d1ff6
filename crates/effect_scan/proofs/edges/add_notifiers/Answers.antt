use Rattle.std.proofs.Common.{refl}
use Rattle.std.proofs.lemmas.Option.{slice_get_read}
use Rattle.effect_scan.specs.code.Leading.{PropertiesLead}
use Rattle.effect_scan.proofs.Adding.{adds_more, adds_all}
use Rattle.effect_scan.proofs.edges.add_notifiers.Goals as goal

pub loop-number-preserved : goal.loop-number-preserved
loop-number-preserved c = adds_more (PropertiesLead c.args.places.now) c.args.classes.now _ _ _ _ _ (slice_get_read _ _ _ _ refl c.loop-number-test.true c.index-classes-number.is) c.loop-number.invariant c.in_ok-add_properties.ensures

pub returns : goal.returns
returns c = adds_all (PropertiesLead c.args.places.now) c.args.classes.now _ _ _ c.loop-number-test.false c.loop-number.invariant
