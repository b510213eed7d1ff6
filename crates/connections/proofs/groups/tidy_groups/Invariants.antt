use Rattle.connections.specs.code.Groups.{TidiesGroups}
use Rattle.connections.proofs.groups.tidy_groups.Given as goal

abbrev pub invariant-loop-visited : goal.invariant-loop-visited
invariant-loop-visited g l = TidiesGroups g.K.PartialEq.eq l.cells l.fn.groups l.groups
