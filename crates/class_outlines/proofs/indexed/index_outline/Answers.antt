use Rattle.std.proofs.Common.{inr}
use Rattle.class_outlines.proofs.OwnPlaces.{over_base}
use Rattle.class_outlines.proofs.TwinMembers.{two_members}
use Rattle.class_outlines.proofs.indexed.index_outline.Goals as goal

pub index_methods-requires : goal.index_methods-requires
index_methods-requires c = over_base c.args.program.now c.args.before.now c.args.outline c.requires

pub index_properties-requires : goal.index_properties-requires
index_properties-requires c = over_base c.args.program.now c.args.before.now c.args.outline c.requires

pub find_twin_members-requires-clause-over : goal.find_twin_members-requires-clause-over
find_twin_members-requires-clause-over c = over_base c.args.program.now c.args.before.now c.args.outline c.requires

pub find_twin_members-requires-clause-methods_by : goal.find_twin_members-requires-clause-methods_by
find_twin_members-requires-clause-methods_by c = c.in_ok-methods.ensures

pub find_twin_members-requires-clause-properties_by : goal.find_twin_members-requires-clause-properties_by
find_twin_members-requires-clause-properties_by c = c.in_ok-properties.ensures

pub returns-in-Some : goal.returns-in-Some
returns-in-Some c = inr (c.twin_offence-offence.ensures, two_members c.args.outline c.in-Some.twins c.in-Some.ensures)

pub invariant_of-result : goal.invariant_of-result
invariant_of-result c = record {
  methods_by = c.in_ok-methods.ensures;
  properties_by = c.in_ok-properties.ensures;
  once = c.in_default.ensures;
}
