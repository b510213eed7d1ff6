use Rattle.std.proofs.Common.{◌≡◌, ◌+◌, ◌++◌, take}
use Rattle.command_lines.proofs.pending.write_word.Given as goal

abbrev pub invariant-loop-i : goal.invariant-loop-i
invariant-loop-i g l = take (l.at + l.i) l.room ≡ take l.at l.initial.room ++ take l.i l.word
