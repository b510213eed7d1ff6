use Rattle.std.proofs.Common.{◌≡◌}
use Rattle.settling_make.proofs.Searching.{LeavesTo}
use Rattle.settling_make.proofs.search.ComponentSearch.leave.Given as goal

abbrev pub invariant-loop-member : goal.invariant-loop-member
invariant-loop-member l = record {
  left : LeavesTo l.member-items l.number l.fn.self.states l.member-index l.self.states;
  sets : l.self.sets ≡ l.fn.self.sets;
  entered : l.self.entered ≡ l.fn.self.entered;
}
