use Rattle.std.proofs.Common.{◌<◌, length, get_or, refl, arith}
use Rattle.std.proofs.lemmas.List.Elements.{Contains-get_or}
use Rattle.settling_make.proofs.Stepping.{highest_none, highest_up, highest_kept, highest_all}
use Rattle.settling_make.proofs.highest.highest_of.Goals as goal
use Rattle.settling_make.proofs.highest.highest_of.Goals.{then-highest-value, else-highest-value}

pub loop-place-init : goal.loop-place-init
loop-place-init c = highest_none c.args.values.now c.args.places.now

pub bounds-values-place : goal.bounds-values-place
bounds-values-place c = c.requires _ (Contains-get_or c.args.places.now c.loop-place.place-index 0 c.loop-place-test.true)

pub offset_bounds-values-place : goal.offset_bounds-values-place
offset_bounds-values-place c =
    let inside : get_or c.args.places.now c.loop-place.place-index 0 < length c.args.values.now = c.requires _ (Contains-get_or c.args.places.now c.loop-place.place-index 0 c.loop-place-test.true) in
    omega arith

pub loop-place-preserved : goal.loop-place-preserved
loop-place-preserved c =
    elim c.if-highest-value.branch [
      | then-highest-value w ↦ rw w.highest-is (highest_up c.args.values.now c.args.places.now c.loop-place.place-index c.loop-place.highest c.loop-place-test.true c.loop-place.invariant _ refl w.if-highest-value.true)
      | else-highest-value w ↦ rw w.highest-is (highest_kept c.args.values.now c.args.places.now c.loop-place.place-index c.loop-place.highest c.loop-place-test.true c.loop-place.invariant w.if-highest-value.false)
    ]

pub returns : goal.returns
returns c = highest_all c.args.values.now c.args.places.now c.loop-place.place-index c.loop-place.highest c.loop-place-test.false c.loop-place.invariant
