use Rattle.std.proofs.Common.{List, length, ap, sym, subst, arith}
use Rattle.std.proofs.lemmas.Option.{slice_get_within}
use Rattle.settling.specs.declared.certificate.SettlingSet.{SettlingSet}
use Rattle.settling.specs.declared.spans.Span.{Span}
use Rattle.settling.specs.code.Spans.{AreSpans}
use Rattle.settling.proofs.Ordering.{in_order}
use Rattle.settling.proofs.OfNodes.{lead_in}
use Rattle.settling.proofs.RoundsOfNodes.{rounds_of_nodes, rounds_some, members_by_numbers}
use Rattle.settling.proofs.Passing.{match_also}
use Rattle.settling.proofs.resting.sets_rest.Goals as goal

pub spans_of-requires-clause-inside : goal.spans_of-requires-clause-inside
spans_of-requires-clause-inside c = λ n k s at of.
    let is = ((c.requires.standings.each n s at).set k).0 of in
    let low = slice_get_within c.args.certificate.now.sets k is.set is.stands in
    let count = ap (λ (ss : List SettlingSet). length ss) c.as_slice.ensures in
    omega (arith, low, count)

pub spans_of-requires-clause-order : goal.spans_of-requires-clause-order
spans_of-requires-clause-order c = in_order c.args.meta.now c.args.certificate.now c.args.standings.now c.requires.standings

pub returns-then-not-have_rounds : goal.returns-then-not-have_rounds
returns-then-not-have_rounds c = λ all.
    let made = subst (λ (ss : List SettlingSet). AreSpans ss c.args.standings.now c.in_ok-made.made) c.as_slice.ensures c.in_ok-made.ensures in
    let spans = subst (λ (xs : List Span). AreSpans c.args.certificate.now.sets c.args.standings.now xs) (sym c.as_slice-spans.ensures) made in
    c.if-not-have_rounds.ensures (rounds_some c.args.meta.now c.args.certificate.now c.args.scan.now c.requires.scan c.requires.rest c.args.standings.now c.requires.standings c.as_slice-spans.result.now spans all)

pub members_hold-requires-clause-leads : goal.members_hold-requires-clause-leads
members_hold-requires-clause-leads c = lead_in c.args.meta.now c.args.certificate.now c.args.scan.now c.requires.scan c.requires.rest c.args.standings.now c.requires.standings

pub members_hold-requires-clause-inside : goal.members_hold-requires-clause-inside
members_hold-requires-clause-inside c = λ n k s at of.
    let is = ((c.requires.standings.each n s at).set k).0 of in
    let low = slice_get_within c.args.certificate.now.sets k is.set is.stands in
    let sets = ap (λ (ss : List SettlingSet). length ss) c.as_slice.ensures in
    let count = c.in_ok-made.ensures.count in
    let spans = ap (λ (xs : List Span). length xs) c.as_slice-spans.ensures in
    omega (arith, low, sets, count, spans)

pub returns : goal.returns
returns c =
    let made = subst (λ (ss : List SettlingSet). AreSpans ss c.args.standings.now c.in_ok-made.made) c.as_slice.ensures c.in_ok-made.ensures in
    let spans = subst (λ (xs : List Span). AreSpans c.args.certificate.now.sets c.args.standings.now xs) (sym c.as_slice-spans.ensures) made in
    match_also _
    (λ members.
    rounds_of_nodes c.args.meta.now c.args.certificate.now c.args.scan.now c.requires.scan c.requires.rest c.args.standings.now c.requires.standings c.as_slice-spans.result.now spans c.edges_join_nodes.ensures c.if-not-have_rounds.ensures members)
    (λ all. members_by_numbers c.args.meta.now c.args.certificate.now c.args.scan.now c.requires.scan c.requires.rest c.args.standings.now c.requires.standings c.as_slice-spans.result.now spans all)
    c.members_hold.ensures
