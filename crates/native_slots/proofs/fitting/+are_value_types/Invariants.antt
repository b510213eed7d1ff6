use Rattle.std.proofs.Common.{length}
use Rattle.native_slots.proofs.fitting.+are_value_types.Given as goal

-- proposed from what the function passes where it calls itself
abbrev pub decreases-are_value_types : goal.decreases-are_value_types
decreases-are_value_types l = length l.value_types.now
