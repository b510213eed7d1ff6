use Rattle.std.proofs.Common.{All, sym, subst}
use Rattle.std.proofs.lemmas.List.Elements.{All-push}
use Rattle.program_flaws.specs.Wires.{IsSo}
use Rattle.program_flaws.proofs.warned.connects.Wiring.add_unwired.Goals.{in-Some+in_ok-push, in_default}
use Rattle.program_flaws.proofs.warned.connects.Wiring.add_unwired.Goals as goal

pub loop-number-preserved : goal.loop-number-preserved
loop-number-preserved c =
    elim c.match-lacking.branch [
      | in-Some+in_ok-push w ↦
          rw w.found-is (subst (All (IsSo c.args.self.now.meta.now)) (sym w.in_ok-push.ensures.items) (All-push (IsSo c.args.self.now.meta.now) _ _ c.loop-number.invariant w.in-Some.ensures))
      | in_default w ↦ rw w.found-is c.loop-number.invariant
    ]
