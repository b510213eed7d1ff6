use Rattle.std.proofs.Common.{length, ap}
use Rattle.class_outlines.proofs.OverBases.{properties_over}
use Rattle.class_outlines.proofs.indexed.index_properties.Goals as goal

pub index_calls-requires : goal.index_calls-requires
index_calls-requires c =
    properties_over c.args.before.now c.args.outline.now c.requires _ c.in-Some.base.now c.property_index.result.now c.in-Some.ensures c.as_slice-properties.result.now
    (ap length c.properties.ensures) c.as_slice-properties.ensures c.property_index.ensures

pub returns-in-Some : goal.returns-in-Some
returns-in-Some c = rw c.as_slice-properties.ensures at c.index_calls.ensures

pub returns-in-None : goal.returns-in-None
returns-in-None c = rw c.as_slice-properties.ensures at c.index_all.ensures
