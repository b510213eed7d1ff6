use Rattle.std.proofs.Common.{ℕ, ◌+◌, ◌<◌, List, length, get_or, None, refl, sym, ap, ◌∙◌, subst, arith}
use Rattle.std.proofs.lemmas.List.{length-append}
use Rattle.std.proofs.lemmas.Option.{slice_get-get_or}
use Rattle.effect_scan.specs.declared.node.Node.{Node}
use Rattle.effect_scan.specs.declared.node.Member.TheVariants.{Method}
use Rattle.effect_scan.specs.Nodes.{node}
use Rattle.rank_check.proofs.Elements.{at_index}
use Rattle.settling.specs.declared.standings.Standing.{Standing}
use Rattle.settling.specs.code.Standings.{IsStandingAt}
use Rattle.settling.proofs.Passing.{pushed_each, read_same}
use Rattle.settling.proofs.standings.standings.Goals as goal

pub loop-number-preserved : goal.loop-number-preserved
loop-number-preserved c =
    let before = c.loop-number.invariant in
    let count = ap (λ (ns : List Node). length ns) c.nodes-node-items.ensures in
    let low : c.loop-number.number < length c.args.places.now = omega (arith, count, c.requires.places, c.loop-number-test.true) in
    let placed = slice_get-get_or c.args.places.now c.loop-number.number 0 low in
    let inside : get_or c.args.places.now c.loop-number.number 0 < length c.args.lines.now = c.requires.inside c.loop-number.number _ placed in
    let here = at_index c.args.lines.now _ c.index-lines-place.result inside c.index-lines-place.is in
    let there = read_same c.nodes-node-items.result.now c.args.scan.now.nodes c.loop-number.number (node 0 (Method 0)) c.nodes-node-items.ensures c.loop-number-test.true in
    let s : Standing = record {
      node = get_or c.nodes-node-items.result.now c.loop-number.number (node 0 (Method 0));
      rank = c.index-lines-place.result.rank;
      step = c.index-lines-place.result.step;
      set = get_or c.args.sets.now c.loop-number.number None;
    } in
    record {
      inside = omega (arith, count, c.loop-number-test.true);
      count = ap (λ (ss : List Standing). length ss) c.in_ok-push.ensures.ok ∙ length-append c.loop-number.standings _ ∙ ap (λ (n : ℕ). n + 1) before.count;
      each = pushed_each (λ (n : ℕ) (s : Standing). IsStandingAt c.args.scan.now.nodes c.args.lines.now c.args.places.now c.args.sets.now n s) c.loop-number.standings _ s c.in_ok-push.ensures.ok before.each
          (subst (λ (n : ℕ). IsStandingAt c.args.scan.now.nodes c.args.lines.now c.args.places.now c.args.sets.now n s) (sym before.count)
          (record {
            node = there;
            place = get_or c.args.places.now c.loop-number.number 0;
            placed = placed;
            line = c.index-lines-place.result;
            stands = here;
            rank = refl;
            step = refl;
            set = refl;
          }));
    }

pub returns : goal.returns
returns c =
    let count = ap (λ (ns : List Node). length ns) c.nodes-node-items.ensures in
    record {
      count = let own = c.loop-number.invariant.count in let most = c.loop-number.invariant.inside in omega (arith, own, most, count, c.loop-number-test.false);
      each = c.loop-number.invariant.each;
    }
