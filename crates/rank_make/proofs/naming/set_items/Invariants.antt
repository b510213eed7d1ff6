use Rattle.std.proofs.Common.{◌≡◌, true}
use Rattle.rank_graph.specs.Solutions.{leads_of}
use Rattle.rank_make.proofs.Steps.{WrittenSoFar}
use Rattle.rank_make.proofs.naming.set_items.Given as goal

abbrev pub invariant-loop-class : goal.invariant-loop-class
invariant-loop-class l = WrittenSoFar l.meta (λ d. leads_of l.solution l.node d ≡ true) l.class l.items l.implied
