use Rattle.std.proofs.Common.{length}
use Rattle.native_slots.proofs.fitting.+are_properties.Given as goal

-- proposed from what the function passes where it calls itself
abbrev pub decreases-are_properties : goal.decreases-are_properties
decreases-are_properties l = length l.numbers.now
