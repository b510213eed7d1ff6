use Rattle.std.proofs.Common.{◌≡◌, drop}
use Rattle.std.specs.List.{list_any}
use Rattle.binding_graph.specs.Places.{is_in}
use Rattle.binding_graph.proofs.installed.are_any.Given as goal

-- of those that are left one is among them exactly where one of all is
abbrev pub invariant-loop-read : goal.invariant-loop-read
invariant-loop-read l = list_any (is_in l.places) (drop l.read-index l.reads) ≡ list_any (is_in l.places) l.reads
