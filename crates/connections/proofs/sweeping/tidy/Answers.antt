use Rattle.std.proofs.Common.{inl, refl}
use Rattle.connections.proofs.sweeping.tidy.Goals as goal

pub returns : goal.returns
returns c = record { all = inl refl; by_signal = λ s g. c.tidy_groups.ensures (s, g); by_object = λ o. c.tidy_groups-2.ensures o }
