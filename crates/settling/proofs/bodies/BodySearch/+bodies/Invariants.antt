use Rattle.std.proofs.Common.{take}
use Rattle.settling.specs.code.Bodies.{BodyHands}
use Rattle.settling.proofs.bodies.BodySearch.+bodies.Given as goal

abbrev pub invariant-all_hand_on-loop-statement : goal.invariant-all_hand_on-loop-statement
invariant-all_hand_on-loop-statement l = BodyHands l.self.meta.now l.self.class l.self.types.now l.grouped (take l.statement-index l.body) l.self.to
