use Rattle.std.proofs.Common.{◌≡◌, ℕ, ◌≤◌, ◌<◌, List, length, get_or, subst, sym, ◌∙◌, Ok, Err, arith}
use Rattle.std.proofs.lemmas.List.Sorted.{searched}
use Rattle.diagnostics.specs.code.Keys.{AreIndexed}
use Rattle.diagnostics.specs.declared.other_text.place.OtherPlace.{OtherPlace}
use Rattle.diagnostics.proofs.Keyed.{found, missing}
use Rattle.diagnostics.proofs.other_text.reading.OtherPlaces.at.Goals as goal

pub returns-in-Ok : goal.returns-in-Ok
returns-in-Ok c =
    let index = subst (λ (ps : List OtherPlace). AreIndexed ps c.self.inside.keys) c.self.view_is c.self.invariant in
    let position = rw (c.as_slice.ensures, c.key.ensures) at c.in-Ok.ensures.position in
    let there = searched c.self.inside.keys _ (Ok c.in-Ok.place) position index.rising in
    found c.args.self.now c.self.inside.keys index c.args.line c.args.column (omega (arith, c.ranges.column.fits)) c.in-Ok.place there.0 there.1 c.get.result (rw c.self.view_is at c.get.ensures.value)

pub returns-in-Err : goal.returns-in-Err
returns-in-Err c =
    let index = subst (λ (ps : List OtherPlace). AreIndexed ps c.self.inside.keys) c.self.view_is c.self.invariant in
    let position = rw (c.as_slice.ensures, c.key.ensures) at c.in-Err.ensures.position in
    let none = searched c.self.inside.keys _ (Err c.in-Err.field-0) position index.rising in
    missing c.args.self.now c.self.inside.keys index c.args.line c.args.column (omega (arith, c.ranges.column.fits)) c.in-Err.field-0 none.1 none.2
