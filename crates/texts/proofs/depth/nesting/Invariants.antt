use Rattle.std.proofs.Common.{◌≤◌, drop}
use Rattle.texts.proofs.Counting.{CountedSoFar}
use Rattle.texts.proofs.depth.nesting.Given as goal

abbrev pub invariant-loop-token : goal.invariant-loop-token
invariant-loop-token l = record {
  so_far : CountedSoFar l.tokens l.depth l.together (drop l.token-index l.tokens);
  few : l.depth ≤ 32;
  short : l.together ≤ 200;
}
