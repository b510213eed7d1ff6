use Rattle.cases.proofs.Ordered.{stays, next, begun-line, ended}
use Rattle.cases.proofs.files.sections.read_sections.Goals as goal

-- a line is added
pub loop-line-preserved-in-Continue-branch-3 : goal.loop-line-preserved-in-Continue-branch-3
loop-line-preserved-in-Continue-branch-3 c = stays c.loop-line.sections.items c.loop-line.current c.add.new.self c.loop-line.number c.saturating_add-number.result c.add.ensures.line c.saturating_add-number.ensures c.loop-line.invariant

-- a section begins
pub loop-line-preserved : goal.loop-line-preserved
loop-line-preserved c = next c.loop-line.sections.items c.keep.new.sections.items c.loop-line.current c.in-Some-2.next c.loop-line.number c.saturating_add-number.result c.in_ok-keep-in-Some-2.ensures (begun-line c.in_ok-begun.field-0 c.in-Some-2.next c.saturating_add-number.result c.in-Some-2.is c.in_ok-begun.ensures.line) c.saturating_add-number.ensures c.loop-line.invariant

-- the file ends
pub returns : goal.returns
returns c = ended c.loop-line.sections.items c.keep-2.new.sections.items c.loop-line.current c.loop-line.number c.in_ok-keep.ensures c.loop-line.invariant
