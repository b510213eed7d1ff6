use Rattle.std.proofs.Common.{ℕ, ◌<◌, List, Option, length, refl, ap, ◌∙◌, arith}
use Rattle.settling.proofs.Lining.{number_low}
use Rattle.settling.proofs.places.note_place.Goals as goal

pub returns-in_default : goal.returns-in_default
returns-in_default c = (refl, c.in_default.ensures.value)

pub offset_bounds-as_slice-node : goal.offset_bounds-as_slice-node
offset_bounds-as_slice-node c =
    let low : c.in-Some.node < length c.as_slice.result.now = number_low c.args.meta.now c.in-Some.node _ c.in-Some.ensures.value (ap (λ (ps : List (Option ℕ)). length ps) c.as_slice.ensures ∙ c.requires.count) in
    omega arith

pub bounds : goal.bounds
bounds c = number_low c.args.meta.now c.in-Some.node _ c.in-Some.ensures.value (ap (λ (ps : List (Option ℕ)). length ps) c.as_slice.ensures ∙ c.requires.count)

pub set-requires : goal.set-requires
set-requires c = number_low c.args.meta.now c.in-Some.node _ c.in-Some.ensures.value c.requires.count

pub returns-in-Some-as_slice : goal.returns-in-Some-as_slice
returns-in-Some-as_slice c = (
  refl,
  record { number = c.in-Some.node; named = c.in-Some.ensures.value; only = c.in-Some.ensures.only; had = rw c.as_slice.ensures at c.in-Some-as_slice.is },
)
