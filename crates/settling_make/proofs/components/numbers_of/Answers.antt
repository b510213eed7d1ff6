use Rattle.settling_make.specs.Searching.{state_of}
use Rattle.settling_make.proofs.components.numbers_of.Goals as goal

pub unreachable-requires : goal.unreachable-requires
unfolding state_of
unreachable-requires c = let d = c.requires _ c.loop-state-test.true in c.in_default.not-Done d.0 d.1
