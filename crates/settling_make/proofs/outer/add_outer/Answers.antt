use Rattle.std.proofs.Common.{sym, refl, ◌∙◌, arith}
use Rattle.settling_make.proofs.Collecting.{adds_yes, adds_no, adds_all}
use Rattle.settling_make.proofs.outer.add_outer.Goals as goal
use Rattle.settling_make.proofs.outer.add_outer.Goals.{then-other-component+in_ok-add, else-other-component}

pub loop-target-preserved : goal.loop-target-preserved
loop-target-preserved c =
    elim c.if-other-component.branch [
      | then-other-component+in_ok-add w ↦
          rw w.others-is
          (adds_yes c.args.found.now.numbers c.args.component c.targets-target-items.result.now c.args.others.now c.loop-target.target-index _ c.loop-target-test.true refl _ _ _ c.number-other.ensures w.if-other-component.true w.in_ok-add.ensures c.loop-target.invariant)
      | else-other-component w ↦
          rw w.others-is
          (adds_no c.args.found.now.numbers c.args.component c.targets-target-items.result.now c.args.others.now c.loop-target.target-index _ c.loop-target-test.true refl _ (sym c.number-other.ensures ∙ w.if-other-component.false) c.loop-target.invariant)
    ]

pub returns : goal.returns
returns c = adds_all _ _ _ _ c.targets-target-items.result.now _ c.loop-target.target-index _ c.targets-target-items.ensures (omega arith) c.loop-target.invariant
