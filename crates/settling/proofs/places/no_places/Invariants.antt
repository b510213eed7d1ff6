use Rattle.std.proofs.Common.{◌≡◌, replicate, None}
use Rattle.settling.proofs.places.no_places.Given as goal

abbrev pub invariant-loop-node : goal.invariant-loop-node
invariant-loop-node l = l.places ≡ replicate l._node None
