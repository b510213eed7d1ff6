use Rattle.std.proofs.Common.{◌≡◌, ℕ, ◌+◌, ◌*◌, List, ◌++◌, length, IsTrue}
use Rattle.std.specs.Io.KnownBytes.{Appends}
use Rattle.command_lines.proofs.output.write_out.Given as goal

abbrev pub invariant-loop-left : goal.invariant-loop-left
invariant-loop-left g l =
    ((done : List ℕ) × (done ++ l.left ≡ l.bytes) × Appends (g.W.Write.contents l.initial.writer) (g.W.Write.contents l.writer) done)
    × (IsTrue l.initial.failing.is_set → IsTrue l.failing.is_set)

abbrev pub decreases-loop-left : goal.decreases-loop-left
decreases-loop-left g l = 2 * length l.left + l.patience
