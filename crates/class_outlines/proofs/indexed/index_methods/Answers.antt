use Rattle.std.proofs.Common.{length, ap}
use Rattle.class_outlines.proofs.OverBases.{methods_over}
use Rattle.class_outlines.proofs.indexed.index_methods.Goals as goal

pub index_calls-requires : goal.index_calls-requires
index_calls-requires c =
    methods_over c.args.before.now c.args.outline.now c.requires _ c.in-Some.base.now c.method_index.result.now c.in-Some.ensures c.as_slice-methods.result.now
    (ap length c.methods.ensures) c.as_slice-methods.ensures c.method_index.ensures

pub returns-in-Some : goal.returns-in-Some
returns-in-Some c = rw c.as_slice-methods.ensures at c.index_calls.ensures

pub returns-in-None : goal.returns-in-None
returns-in-None c = rw c.as_slice-methods.ensures at c.index_all.ensures
