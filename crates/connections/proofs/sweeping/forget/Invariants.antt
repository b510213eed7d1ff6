use Rattle.connections.specs.code.Lists.{TidiesLists}
use Rattle.connections.proofs.sweeping.forget.Given as goal

abbrev pub invariant-loop-key : goal.invariant-loop-key
invariant-loop-key l = TidiesLists l.cells l.fn.lists l.lists
