use Rattle.std.proofs.Common.{inl, refl}
use Rattle.connections.proofs.sweeping.forget_one.Goals as goal

pub returns-in-Some : goal.returns-in-Some
returns-in-Some c = record { all = inl refl; by_signal = λ s g. c.forget_places.ensures (s, g); by_object = λ o. inl refl }
