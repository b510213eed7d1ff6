use Rattle.rank_make.proofs.making.make_bound.Goals as goal

pub bound_solved-requires-clause-scan : goal.bound_solved-requires-clause-scan
bound_solved-requires-clause-scan c = c.in_ok-ranks.ensures.1.scan

pub bound_solved-requires-clause-ready : goal.bound_solved-requires-clause-ready
bound_solved-requires-clause-ready c = c.in_ok-ranks.ensures.0

pub bound_solved-requires-clause-solved : goal.bound_solved-requires-clause-solved
bound_solved-requires-clause-solved c = c.in_ok-ranks.ensures.1.solved

pub returns : goal.returns
returns c = record { are = c.in_ok-ranks.ensures.1; bounds = c.in_ok-bound.ensures }
