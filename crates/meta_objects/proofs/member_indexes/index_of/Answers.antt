use Rattle.meta_objects.proofs.member_indexes.index_of.Goals as goal

pub returns : goal.returns
returns c = record {
  properties = rw c.in_ok-properties.ensures c.property_index.ensures;
  methods = rw c.in_ok-methods.ensures c.method_index.ensures;
}
