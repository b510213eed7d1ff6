use Rattle.std.proofs.Common.{All, sym, subst}
use Rattle.std.proofs.lemmas.List.Elements.{All-push}
use Rattle.program_flaws.specs.Wires.{IsSo}
use Rattle.program_flaws.proofs.Wiring.{idle}
use Rattle.program_flaws.proofs.warned.idle_wires.add_idle_wires.Goals.{in-Some+in_ok-push, in_default}
use Rattle.program_flaws.proofs.warned.idle_wires.add_idle_wires.Goals as goal

pub loop-place-preserved : goal.loop-place-preserved
loop-place-preserved c =
    elim c.match-covering.branch [
      | in-Some+in_ok-push w ↦
          let is = idle c.classes-classes.ensures.sound _ _ _ _ c.wires-wire-items.ensures c.loop-place-test.true w.in-Some.ensures in
          rw w.found-is (subst (All (IsSo c.args.meta.now)) (sym w.in_ok-push.ensures.items) (All-push (IsSo c.args.meta.now) _ _ c.loop-place.invariant is))
      | in_default w ↦ rw w.found-is c.loop-place.invariant
    ]
