use Rattle.rank_graph.proofs.states.numbers_of.Goals as goal

pub unreachable-requires : goal.unreachable-requires
unreachable-requires c = let d = c.requires _ c.loop-mark-test.true in c.in_default.not-Left d.0 d.1
