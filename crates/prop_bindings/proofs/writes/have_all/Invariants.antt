use Rattle.std.proofs.Common.{drop}
use Rattle.std.specs.Prelude.{◌↔◌}
use Rattle.prop_bindings.specs.code.Parts.{HaveAhead}
use Rattle.prop_bindings.proofs.writes.have_all.Given as goal

-- those that are left have theirs exactly where all do
abbrev pub invariant-loop-target : goal.invariant-loop-target
invariant-loop-target l = HaveAhead l.values l.tree (drop l.target-index l.targets) ↔ HaveAhead l.values l.tree l.targets
