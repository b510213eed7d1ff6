use Rattle.std.proofs.Common.{ℕ, List, Option, length, sym, subst}
use Rattle.settling.specs.declared.certificate.SettlingLine.{SettlingLine}
use Rattle.settling.specs.code.Lines.{PlacesFirst, PlacesLines, ArePlaced}
use Rattle.settling.proofs.Assembling.{places_told, line_missing, each_there, apart_of}
use Rattle.settling.proofs.tables.Tables.of.Goals as goal

pub returns : goal.returns
returns c = λ ready.
    let found = subst (λ (ls : List SettlingLine). PlacesLines c.args.meta.now ls c.in_ok-found.found) c.as_slice-lines.ensures c.in_ok-found.ensures in
    let are = subst (λ (ps : List (Option ℕ)). PlacesFirst c.args.meta.now c.args.certificate.now.lines (length c.args.certificate.now.lines) ps) (sym c.as_slice-noted.ensures) found.are in
    let lacks = rw c.in-None.is at c.in_ok-places.ensures in
    (ready.wires, ready.typed, line_missing c.args.meta.now c.args.certificate.now c.as_slice-noted.result.now are lacks.0 lacks.1)

pub returns-then-not-apart : goal.returns-then-not-apart
returns-then-not-apart c = λ ready.
    let found = subst (λ (ls : List SettlingLine). PlacesLines c.args.meta.now ls c.in_ok-found.found) c.as_slice-lines.ensures c.in_ok-found.ensures in
    let are = subst (λ (ps : List (Option ℕ)). PlacesFirst c.args.meta.now c.args.certificate.now.lines (length c.args.certificate.now.lines) ps) (sym c.as_slice-noted.ensures) found.are in
    let placed = places_told c.args.meta.now c.args.certificate.now.lines c.as_slice-noted.result.now are c.in-Some.places (rw c.in-Some.is at c.in_ok-places.ensures) in
    let mixed = rw c.if-not-apart.true at found.apart in
    (ready.wires, ready.typed, each_there c.args.meta.now c.args.certificate.now c.in-Some.places placed, λ rest. mixed (apart_of c.args.meta.now c.args.certificate.now rest))

pub placed_tables-requires-clause-apart : goal.placed_tables-requires-clause-apart
placed_tables-requires-clause-apart c =
    let found = subst (λ (ls : List SettlingLine). PlacesLines c.args.meta.now ls c.in_ok-found.found) c.as_slice-lines.ensures c.in_ok-found.ensures in
    rw c.if-not-apart.false at found.apart

pub placed_tables-requires-clause-places : goal.placed_tables-requires-clause-places
placed_tables-requires-clause-places c =
    let found = subst (λ (ls : List SettlingLine). PlacesLines c.args.meta.now ls c.in_ok-found.found) c.as_slice-lines.ensures c.in_ok-found.ensures in
    let are = subst (λ (ps : List (Option ℕ)). PlacesFirst c.args.meta.now c.args.certificate.now.lines (length c.args.certificate.now.lines) ps) (sym c.as_slice-noted.ensures) found.are in
    let placed = places_told c.args.meta.now c.args.certificate.now.lines c.as_slice-noted.result.now are c.in-Some.places (rw c.in-Some.is at c.in_ok-places.ensures) in
    subst (λ (ps : List ℕ). ArePlaced c.args.meta.now c.args.certificate.now.lines ps) (sym c.as_slice.ensures) placed
