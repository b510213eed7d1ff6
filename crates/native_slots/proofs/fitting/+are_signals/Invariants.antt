use Rattle.std.proofs.Common.{length}
use Rattle.native_slots.proofs.fitting.+are_signals.Given as goal

-- proposed from what the function passes where it calls itself
abbrev pub decreases-are_signals : goal.decreases-are_signals
decreases-are_signals l = length l.numbers.now
