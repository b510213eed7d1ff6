use Rattle.std.proofs.Common.{List, ℕ, get_or, refl, arith, subst}
use Rattle.std.specs.List.{Contains}
use Rattle.std.proofs.lemmas.List.Elements.{Contains-get_or}
use Rattle.settling_make.proofs.Silent.{ends_none, ends_yes, ends_no, ends_all}
use Rattle.settling_make.proofs.heights.silent_row.Goals as goal
use Rattle.settling_make.proofs.heights.silent_row.Goals.{then-is_silent+in_ok-add, else-is_silent}

pub loop-target-init : goal.loop-target-init
loop-target-init c = ends_none _ _ _ _ _ _ c.new-row.ensures

pub is_silent-requires : goal.is_silent-requires
is_silent-requires c =
    let items = c.targets-target-items.result.now in
    c.requires c.args.number _ (subst (λ (l : List ℕ). Contains l (get_or items c.loop-target.target-index 0)) c.targets-target-items.ensures (Contains-get_or items c.loop-target.target-index 0 c.loop-target-test.true))

pub loop-target-preserved : goal.loop-target-preserved
loop-target-preserved c =
    elim c.if-is_silent.branch [
      | then-is_silent+in_ok-add w ↦ rw w.row-is (ends_yes _ c.args.scan.now.rows _ _ _ _ _ c.loop-target-test.true refl _ _ w.in_ok-add.ensures (c.is_silent.ensures.0 w.if-is_silent.true) c.loop-target.invariant)
      | else-is_silent w ↦ rw w.row-is (ends_no _ c.args.scan.now.rows _ _ _ _ _ c.loop-target-test.true refl _ (λ quiet. let told = c.is_silent.ensures.1 quiet in let off = w.if-is_silent.false in cc) c.loop-target.invariant)
    ]

pub returns : goal.returns
returns c = ends_all _ _ _ _ _ _ _ c.targets-target-items.ensures (omega arith) c.loop-target.invariant
