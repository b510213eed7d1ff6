use Rattle.std.proofs.Common.{ℕ, take}
use Rattle.std.specs.List.{AllZip}
use Rattle.syntax_trees.specs.declared.program.Formal.{Formal}
use Rattle.class_outlines.specs.Outlines.{IsOutlineNamed}
use Rattle.name_resolution.proofs.resolve_site.resolve_formals.Given as goal

abbrev pub invariant-loop-formal : goal.invariant-loop-formal
invariant-loop-formal l = AllZip (λ (f : Formal) (c : ℕ). IsOutlineNamed l.outlines f.class c) (take l.formal-index l.formals) l.classes
