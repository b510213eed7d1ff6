use Rattle.std.proofs.Common.{◌++◌, take}
use Rattle.prop_bindings.specs.Changes.{AreChanged}
use Rattle.binding_graph.specs.code.Numbering.{places_of}
use Rattle.prop_bindings.specs.code.Parts.{ahead}
use Rattle.prop_bindings.proofs.changes.changed_among.Given as goal

-- those of the first ones
abbrev pub invariant-loop-target : goal.invariant-loop-target
invariant-loop-target l = AreChanged l.tree (ahead l.values l.tree) (take l.target-index l.targets) l.changed

abbrev pub invariant-loop-each : goal.invariant-loop-each
invariant-loop-each l = AreChanged l.tree (ahead l.values l.tree) (l.fn.targets ++ places_of (take l.each-index l.others)) l.changed
