use Rattle.std.proofs.Common.{◌∙◌, ℕ, List, Option, get_or, None, sym, ap}
use Rattle.settling_make.proofs.Asking.{placed_nodes, placed_in_order, asks_read, asks_none, margins_more}
use Rattle.settling_make.proofs.margins.margins_of.Goals as goal
use Rattle.settling_make.proofs.margins.margins_of.Goals.{in-Some, in-None}

pub spans_of-requires-clause-order : goal.spans_of-requires-clause-order
spans_of-requires-clause-order c =
    let placed = placed_nodes c.args.meta.now c.args.scan.now c.requires.scan _ _ _ c.in_ok-standings.ensures in
    rw c.as_slice-2.ensures (placed_in_order c.args.meta.now c.classes-classes.ensures.sound c.args.scan.now c.requires.scan c.args.found.now c.requires.found c.requires.made.0 c.args.made.now c.requires.made.1 c.in_ok-standings.standings placed)

pub loop-place-preserved : goal.loop-place-preserved
loop-place-preserved c =
    let read = sym (ap (λ (l : List (Option ℕ)). get_or l c.loop-place.place-index None) c.as_slice-place-items.ensures) in
    let placed = placed_nodes c.args.meta.now c.args.scan.now c.requires.scan _ _ _ c.in_ok-standings.ensures in
    let spans = rw (c.as_slice.ensures, c.as_slice-2.ensures) at c.in_ok-spans.ensures in
    margins_more c.args.meta.now c.args.made.now c.loop-place.place-index c.loop-place.margins _ c.match-place.margin c.in_ok-push.ensures.ok
    (elim c.match-place.branch [
      | in-Some w ↦
          rw w.margin-is
          (asks_read c.args.meta.now c.classes-classes.ensures.sound c.args.scan.now c.requires.scan c.args.found.now c.requires.found c.requires.made.0 c.args.made.now c.requires.made.1 c.in_ok-standings.standings placed c.in_ok-spans.spans spans
          c.loop-place.place-index w.in-Some.set (read ∙ w.in-Some.is) w.as_slice-in-Some.result.now _ w.as_slice-in-Some.ensures w.margin_with-margin.result w.margin_with-margin.ensures.least w.margin_with-margin.ensures.round w.margin_with-margin.ensures.cost)
      | in-None w ↦ rw w.margin-is (asks_none c.args.meta.now c.args.made.now c.loop-place.place-index (read ∙ w.in-None.is) w.no_set-margin.result w.no_set-margin.ensures)
    ])
    c.loop-place.invariant
