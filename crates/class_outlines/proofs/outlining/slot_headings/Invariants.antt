use Rattle.std.proofs.Common.{◌≡◌, ◌++◌, drop}
use Rattle.class_outlines.specs.Outlines.{slot_headings}
use Rattle.class_outlines.proofs.outlining.slot_headings.Given as goal

-- what is left follows
abbrev pub invariant-loop-place : goal.invariant-loop-place
invariant-loop-place l = l.headings ++ slot_headings l.number l.place (drop l.place l.slots) ≡ slot_headings l.number 0 l.slots
