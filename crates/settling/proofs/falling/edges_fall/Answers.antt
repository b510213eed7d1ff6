use Rattle.std.proofs.Common.{ℕ, List, sym, subst}
use Rattle.std.specs.List.{Contains}
use Rattle.std.proofs.lemmas.Option.{slice_get-get_or}
use Rattle.effect_scan.specs.Rows.{row}
use Rattle.settling.specs.declared.standings.Standing.{Standing}
use Rattle.settling.specs.code.ByNumbers.{FallFrom}
use Rattle.settling.proofs.Passing.{first_more, first_all}
use Rattle.settling.proofs.falling.edges_fall.Goals as goal

pub falls_from-requires : goal.falls_from-requires
falls_from-requires c = λ b held.
    c.requires c.loop-number.number _ (slice_get-get_or c.args.standings.now c.loop-number.number _ c.loop-number-test.true) b
    (subst (λ (ts : List ℕ). Contains ts b) c.targets.ensures held)

pub returns-then-not-falls_from : goal.returns-then-not-falls_from
returns-then-not-falls_from c = λ all.
    c.if-not-falls_from.ensures
    (λ b to held at.
    all c.loop-number.number _ (slice_get-get_or c.args.standings.now c.loop-number.number _ c.loop-number-test.true) b to (subst (λ (ts : List ℕ). Contains ts b) c.targets.ensures held) at)

pub loop-number-preserved : goal.loop-number-preserved
loop-number-preserved c =
    first_more (λ (a : ℕ) (from : Standing). FallFrom c.args.meta.now from (row c.args.scan.now.rows a) c.args.standings.now) c.args.standings.now c.loop-number.number _
    (slice_get-get_or c.args.standings.now c.loop-number.number _ c.loop-number-test.true)
    (λ b to held at. c.if-not-falls_from.ensures b to (subst (λ (ts : List ℕ). Contains ts b) (sym c.targets.ensures) held) at)
    c.loop-number.invariant

pub returns : goal.returns
returns c = first_all (λ (a : ℕ) (from : Standing). FallFrom c.args.meta.now from (row c.args.scan.now.rows a) c.args.standings.now) c.args.standings.now c.loop-number.number c.loop-number-test.false c.loop-number.invariant
