use Rattle.rank_make.proofs.making.make.Goals as goal

pub lines-requires-clause-scan : goal.lines-requires-clause-scan
lines-requires-clause-scan c = c.in_ok-bound.ensures.are.scan

pub lines-requires-clause-low : goal.lines-requires-clause-low
lines-requires-clause-low c = c.in_ok-bound.ensures.bounds.low

pub returns : goal.returns
returns c = c.in_ok-bound.ensures.bounds.least _ c.in_ok-lines.ensures
