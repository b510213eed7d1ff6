use Rattle.std.proofs.Common.{◌≡◌, ◌≤◌, ◌/◌, map, take, length, All, Contains, IfSome}
use Rattle.diagnostics.specs.Likely.{edits_between, IsNoNearer}
use Rattle.diagnostics.proofs.edits.nearest.Given as goal

abbrev pub invariant-loop-word : goal.invariant-loop-word
invariant-loop-word l = record {
  third : l.least ≤ length l.fn.name / 3;
  one_of : IfSome l.found (λ word. Contains (map (λ w. w.now) l.words) word.now);
  least_is : IfSome l.found (λ word. edits_between l.fn.name word.now ≡ l.least);
  seen : All (λ w. IsNoNearer l.fn.name l.least w.now) (take l.word-index l.words);
}
