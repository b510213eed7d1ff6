use Rattle.std.proofs.Common.{drop}
use Rattle.std.specs.Prelude.{◌↔◌}
use Rattle.prop_bindings.specs.Calls.{AllFit}
use Rattle.prop_bindings.proofs.writes.all_fit.Given as goal

-- those that are left fit exactly where all do
abbrev pub invariant-loop-write : goal.invariant-loop-write
invariant-loop-write l = AllFit l.meta l.tree (drop l.write-index l.writes) ↔ AllFit l.meta l.tree l.writes
