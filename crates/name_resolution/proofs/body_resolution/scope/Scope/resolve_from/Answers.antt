use Rattle.std.proofs.Common.{inr, refl}
use Rattle.std.proofs.lemmas.Option.{slice_get_read}
use Rattle.name_resolution.proofs.BodyPieces.{step_left, step_only, step_stuck, steps_end}
use Rattle.name_resolution.proofs.body_resolution.scope.Scope.resolve_from.Goals as goal

pub loop-name-preserved : goal.loop-name-preserved
loop-name-preserved c =
    let at = slice_get_read _ _ _ _ refl c.loop-name-test.true c.name-item.is in
    record {
      left = step_left _ _ _ _ _ _ _ _ _ _ _ _ at c.in-Some.ensures c.read_type-read.ensures c.in_ok-next.ensures c.in_ok-push.ensures.ok c.loop-name.invariant.left;
      only = step_only _ _ _ _ _ _ _ _ _ at c.in-Some.ensures c.in_ok-next.ensures c.loop-name.invariant.only;
    }

pub returns-in_default : goal.returns-in_default
returns-in_default c =
    let at = slice_get_read _ _ _ _ refl c.loop-name-test.true c.name-item.is in
    inr (c.no_member.ensures, step_stuck _ _ _ _ _ _ at c.loop-name.invariant.only c.in_default.ensures)

pub returns : goal.returns
returns c = (refl, steps_end _ _ _ _ _ _ c.loop-name-test.false c.loop-name.invariant.left)
