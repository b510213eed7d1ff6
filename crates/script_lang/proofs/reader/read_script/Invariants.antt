use Rattle.std.proofs.Common.{◌+◌, ◌≤◌, length}
use Rattle.script_lang.proofs.Scripts.{LinesSoFar}
use Rattle.script_lang.proofs.reader.read_script.Given as goal

abbrev pub invariant-loop-line : goal.invariant-loop-line
invariant-loop-line l = record {
  so_far : LinesSoFar l.fn.bytes l.events.items l.number l.rest;
  room : l.number + length l.rest ≤ length l.fn.bytes;
}

abbrev pub decreases-loop-line : goal.decreases-loop-line
decreases-loop-line l = length l.rest
