use Rattle.std.proofs.Common.{◌≡◌, List, ◌∷◌, subst, arith, ◌-◌}
use Rattle.connections.specs.declared.place.CellPlace.{CellPlace}
use Rattle.connections.specs.code.CellPlaces.{Rising}
use Rattle.connections.proofs.Numbers.{splits_at, splits_first}
use Rattle.connections.proofs.search.guess.Goals as goal

pub returns-then-number-first : goal.returns-then-number-first
returns-then-number-first c =
    let whole : c.args.places.now ≡ c.in_ok-first.first.now ∷ c.in_ok-first.field-0-1.now = c.in_ok-first.ensures.cases.0 in
    rw whole (omega arith, splits_first c.requires.0 c.in_ok-first.first.now c.in_ok-first.field-0-1.now c.args.number (subst (λ (ps : List CellPlace). Rising 0 ps c.requires.0) whole c.requires.1) c.if-number-first.true)

pub returns-then-places-at : goal.returns-then-places-at
returns-then-places-at c =
    (omega (arith, c.if-ahead-places.false), splits_at c.requires.0 c.args.places.now c.args.number (c.args.number - c.in_ok-first.first.now.number) (record { number = 0; key = 0 }) c.requires.1 (omega (arith, c.if-ahead-places.false)) c.if-places-at.true)
