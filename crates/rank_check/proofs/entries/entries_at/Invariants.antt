use Rattle.std.proofs.Common.{take}
use Rattle.std.specs.List.{AllZip}
use Rattle.rank_check.specs.Entries.{IsEntryAt}
use Rattle.rank_check.proofs.entries.entries_at.Given as goal

abbrev pub invariant-loop-place : goal.invariant-loop-place
invariant-loop-place l = AllZip (IsEntryAt l.meta l.lines) (take l.place-index l.places) l.entries
