use Rattle.effect_scan.specs.code.Families.{gathered}
use Rattle.effect_scan.proofs.Gathered.{AreSettled}
use Rattle.effect_scan.proofs.sharing.settle_all.Given as goal

abbrev pub invariant-loop-node : goal.invariant-loop-node
invariant-loop-node l = AreSettled (gathered l.lists l.initial.rows l.named) l.initial.rows l.twins l.rows l.node
