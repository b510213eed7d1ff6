use Rattle.std.proofs.Common.{[], ◌∷◌, map, take, drop}
use Rattle.std.specs.Prelude.{codes}
use Rattle.class_outlines.specs.declared.outline.Outline.{Outline}
use Rattle.class_outlines.specs.Bases.{LacksBase}
use Rattle.class_outlines.specs.Outlines.{Outlines}
use Rattle.class_outlines.proofs.outlining.outline_classes.Given as goal

-- the classes so far are outlined, and what is left decides of the rest
abbrev pub invariant-loop-number : goal.invariant-loop-number
invariant-loop-number l = record {
  so_far : Outlines (take l.number l.program.classes) l.outlines.items;
  lacks : LacksBase (map (λ (o : Outline). o.name) l.outlines.items) (drop l.number l.program.classes) → LacksBase (codes "QObject" ∷ []) l.program.classes;
}
