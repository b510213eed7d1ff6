use Rattle.std.proofs.Common.{inl, refl}
use Rattle.connections.proofs.Stale.{TidiesLists-again}
use Rattle.connections.proofs.sweeping.forget.Goals as goal

pub loop-key-init : goal.loop-key-init
loop-key-init c = record { all = c.forget.ensures; by_signal = λ s g. inl refl; by_object = λ o. inl refl }

pub loop-key-preserved : goal.loop-key-preserved
loop-key-preserved c = TidiesLists-again c.args.cells.now _ _ _ c.loop-key.invariant c.forget_one.ensures
