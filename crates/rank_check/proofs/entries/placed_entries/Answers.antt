use Rattle.std.proofs.Common.{List, length, ap, subst, arith}
use Rattle.certificate_lang.specs.declared.certificate.Line.{Line}
use Rattle.rank_check.specs.Causes.{IsExtra}
use Rattle.rank_check.proofs.Assembled.{numbers_low, place_inside, each_there, extra_line, nodes_named}
use Rattle.rank_check.proofs.Breaking.{extra_breaks}
use Rattle.rank_check.proofs.entries.placed_entries.Goals as goal

pub take_first_extra-requires : goal.take_first_extra-requires
take_first_extra-requires c = numbers_low c.args.meta.now c.args.certificate.now c.args.numbers c.requires.numbers _ c.requires.places.counted

pub returns-in-Some : goal.returns-in-Some
returns-in-Some c = λ ready.
    let extra = extra_line c.args.meta.now c.args.certificate.now c.args.numbers c.requires.numbers c.args.places.now c.requires.places c.in-Some.extra c.in-Some.ensures in
    let each = each_there c.args.meta.now c.args.certificate.now c.args.numbers c.requires.numbers c.args.places.now c.requires.places in
    ((ready.wires, ready.typed, each, extra_breaks c.args.meta.now c.args.certificate.now c.in-Some.extra extra), extra)

pub entries_at-requires-clause-inside : goal.entries_at-requires-clause-inside
entries_at-requires-clause-inside c = λ n k at.
    let low = place_inside c.args.meta.now c.args.certificate.now c.args.numbers c.requires.numbers k n (c.requires.places.is_for n k at) in
    let count = ap (λ (ls : List Line). length ls) c.as_slice.ensures in
    omega arith

pub returns-in-Ok : goal.returns-in-Ok
returns-in-Ok c =
    nodes_named c.args.meta.now c.args.certificate.now c.args.numbers c.requires.numbers c.args.places.now c.requires.places c.in_default.ensures c.in-Ok.entries
    (rw (c.as_slice.ensures, c.in-Ok.is) at c.in_ok-entries.ensures)

pub returns-in-Err : goal.returns-in-Err
returns-in-Err c = λ ready.
    let extra = subst (λ (ls : List Line). IsExtra c.args.meta.now ls c.in-Err.extra) c.as_slice.ensures (rw c.in-Err.is at c.in_ok-entries.ensures) in
    let each = each_there c.args.meta.now c.args.certificate.now c.args.numbers c.requires.numbers c.args.places.now c.requires.places in
    ((ready.wires, ready.typed, each, extra_breaks c.args.meta.now c.args.certificate.now c.in-Err.extra extra), extra)
