use Rattle.command_lines.specs.MetaLines.{property_line}
use Rattle.command_lines.proofs.Sending.{one_item}
use Rattle.command_lines.proofs.meta_line.Output+W.properties.Goals as goal

pub loop-property-preserved : goal.loop-property-preserved
loop-property-preserved g c = one_item (property_line c.args.class.now) _ _ _ c.property-item.result c.loop-property-test.true c.property-item.is c.loop-property.invariant (rw c.get.ensures at c.property.ensures)
