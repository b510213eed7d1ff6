use Rattle.std.proofs.Common.{ℕ, List, None, subst}
use Rattle.std.specs.List.{Contains}
use Rattle.std.proofs.lemmas.Option.{slice_get-get_or, slice_get_within}
use Rattle.effect_scan.specs.declared.node.Member.TheVariants.{Method}
use Rattle.effect_scan.specs.Nodes.{node}
use Rattle.effect_scan.specs.Rows.{row}
use Rattle.settling.specs.declared.standings.Standing.{Standing}
use Rattle.settling.specs.code.Spans.{NodeHolds}
use Rattle.settling.proofs.Passing.{first_more, first_all}
use Rattle.settling.proofs.resting.members_hold.Goals as goal

pub node_holds-requires-clause-targets : goal.node_holds-requires-clause-targets
node_holds-requires-clause-targets c = λ b held.
    let none : Standing = record { node = node 0 (Method 0); rank = 0; step = 0; set = None } in
    let found = c.requires.leads c.loop-number.number _ (slice_get-get_or c.args.standings.now c.loop-number.number none c.loop-number-test.true) b (subst (λ (ts : List ℕ). Contains ts b) c.targets.ensures held) in
    slice_get_within c.args.standings.now b found.0 found.1

pub node_holds-requires-clause-inside : goal.node_holds-requires-clause-inside
node_holds-requires-clause-inside c = λ k of. c.requires.inside c.loop-number.number k _ (slice_get-get_or c.args.standings.now c.loop-number.number _ c.loop-number-test.true) of

pub returns-then-not-node_holds : goal.returns-then-not-node_holds
returns-then-not-node_holds c = λ all.
    let fails = rw c.targets.ensures at c.if-not-node_holds.ensures in
    fails (all c.loop-number.number _ (slice_get-get_or c.args.standings.now c.loop-number.number _ c.loop-number-test.true))

pub loop-number-preserved : goal.loop-number-preserved
loop-number-preserved c =
    first_more (λ (n : ℕ) (s : Standing). NodeHolds c.args.meta.now c.args.standings.now (row c.args.scan.now.rows n) c.args.spans.now s) c.args.standings.now c.loop-number.number _
    (slice_get-get_or c.args.standings.now c.loop-number.number _ c.loop-number-test.true)
    (rw c.targets.ensures at c.if-not-node_holds.ensures)
    c.loop-number.invariant

pub returns : goal.returns
returns c =
    first_all (λ (n : ℕ) (s : Standing). NodeHolds c.args.meta.now c.args.standings.now (row c.args.scan.now.rows n) c.args.spans.now s) c.args.standings.now c.loop-number.number c.loop-number-test.false c.loop-number.invariant
