use Rattle.std.proofs.Common.{◌≡◌, ◌<◌, ℕ, Bool, List, length, get_or, slice_get, Some, sym, ap, ◌∙◌, subst, arith}
use Rattle.std.specs.List.{Contains}
use Rattle.std.proofs.lemmas.Option.{same_Some}
use Rattle.effect_scan.specs.declared.node.Node.{Node}
use Rattle.effect_scan.specs.declared.node.Member.TheVariants.{Method}
use Rattle.effect_scan.specs.Nodes.{node}
use Rattle.effect_scan.specs.Rows.{row}
use Rattle.rank_check.proofs.Elements.{at_index}
use Rattle.settling.specs.code.ByNumbers.{Holds}
use Rattle.settling.proofs.Passing.{first_more, first_all, read_same}
use Rattle.settling.proofs.holding.sets_hold.Goals as goal

pub holds_targets-requires : goal.holds_targets-requires
holds_targets-requires c = λ b held. c.requires.inside c.loop-number.number b (subst (λ (ts : List ℕ). Contains ts b) c.targets.ensures held)

pub returns-then-not-holds_own : goal.returns-then-not-holds_own
returns-then-not-holds_own c = λ all.
    let count = ap (λ (ns : List Node). length ns) c.nodes-node-items.ensures in
    let inside : c.loop-number.number < length c.args.sets.now = omega (arith, count, c.requires.count, c.loop-number-test.true) in
    let at = at_index c.args.sets.now c.loop-number.number c.index-sets-number.result inside c.index-sets-number.is in
    let there = read_same c.nodes-node-items.result.now c.args.scan.now.nodes c.loop-number.number (node 0 (Method 0)) c.nodes-node-items.ensures c.loop-number-test.true in
    c.if-not-holds_own.ensures (all c.loop-number.number _ c.index-sets-number.result there at).own

pub returns-then-not-holds_targets : goal.returns-then-not-holds_targets
returns-then-not-holds_targets c = λ all.
    let count = ap (λ (ns : List Node). length ns) c.nodes-node-items.ensures in
    let inside : c.loop-number.number < length c.args.sets.now = omega (arith, count, c.requires.count, c.loop-number-test.true) in
    let at = at_index c.args.sets.now c.loop-number.number c.index-sets-number.result inside c.index-sets-number.is in
    let there = read_same c.nodes-node-items.result.now c.args.scan.now.nodes c.loop-number.number (node 0 (Method 0)) c.nodes-node-items.ensures c.loop-number-test.true in
    c.if-not-holds_targets.ensures
    (λ b other held at_b. (all c.loop-number.number _ c.index-sets-number.result there at).passed_on b other (subst (λ (ts : List ℕ). Contains ts b) c.targets.ensures held) at_b)

pub loop-number-preserved : goal.loop-number-preserved
loop-number-preserved c =
    let count = ap (λ (ns : List Node). length ns) c.nodes-node-items.ensures in
    let inside : c.loop-number.number < length c.args.sets.now = omega (arith, count, c.requires.count, c.loop-number-test.true) in
    let at = at_index c.args.sets.now c.loop-number.number c.index-sets-number.result inside c.index-sets-number.is in
    let there = read_same c.nodes-node-items.result.now c.args.scan.now.nodes c.loop-number.number (node 0 (Method 0)) c.nodes-node-items.ensures c.loop-number-test.true in
    first_more (λ (a : ℕ) (x : Node). (set : List Bool) → slice_get c.args.sets.now a ≡ Some set → Holds c.args.meta.now x (row c.args.scan.now.rows a) c.args.sets.now set) c.args.scan.now.nodes c.loop-number.number (get_or c.nodes-node-items.result.now c.loop-number.number (node 0 (Method 0))) there
    (λ set at_set.
    subst (λ (s : List Bool). Holds c.args.meta.now (get_or c.nodes-node-items.result.now c.loop-number.number (node 0 (Method 0))) (row c.args.scan.now.rows c.loop-number.number) c.args.sets.now s) (same_Some _ _ (sym at ∙ at_set))
    (record {
      own = c.if-not-holds_own.ensures;
      passed_on = λ b other held at_b. c.if-not-holds_targets.ensures b other (subst (λ (ts : List ℕ). Contains ts b) (sym c.targets.ensures) held) at_b;
    }))
    c.loop-number.invariant

pub returns : goal.returns
returns c = λ a x set at_x at.
    let count = ap (λ (ns : List Node). length ns) c.nodes-node-items.ensures in
    first_all (λ (a : ℕ) (x : Node). (set : List Bool) → slice_get c.args.sets.now a ≡ Some set → Holds c.args.meta.now x (row c.args.scan.now.rows a) c.args.sets.now set) c.args.scan.now.nodes c.loop-number.number
    (omega (arith, count, c.loop-number-test.false)) c.loop-number.invariant a x at_x set at
