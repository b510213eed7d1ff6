use Rattle.std.proofs.Common.{sym, arith}
use Rattle.effect_scan.proofs.Numbered.{no_shape, no_start, no_place, number_found, number_only, number_low, shape_low}
use Rattle.effect_scan.proofs.numbering.Numbering.number.Goals as goal

pub returns-in_err-shape-clause-value : goal.returns-in_err-shape-clause-value
returns-in_err-shape-clause-value c = rw c.from_residual.ensures (no_shape c.self.inside.nodes c.args.self.now c.self.inside.shapes c.self.inside.starts c.self.view_is c.self.invariant c.args.node (sym c.in_err-shape.ensures.value))

pub returns-in_err-start-clause-value : goal.returns-in_err-start-clause-value
returns-in_err-start-clause-value c = rw c.from_residual-in_err-start.ensures (no_start c.self.inside.nodes c.args.self.now c.self.inside.shapes c.self.inside.starts c.self.view_is c.self.invariant c.args.node (sym c.in_err-start.ensures.value))

pub place-requires : goal.place-requires
place-requires c =
    let low = shape_low _ _ _ _ _ _ c.self.invariant (sym c.in_ok-shape.ensures.value) (sym c.in_ok-start.ensures.value) in
    omega arith

pub returns-in_err-place-clause-value : goal.returns-in_err-place-clause-value
returns-in_err-place-clause-value c = rw c.from_residual-in_err-place.ensures (no_place c.self.inside.nodes c.args.self.now c.self.inside.shapes c.self.inside.starts c.self.view_is c.self.invariant c.args.node _ (sym c.in_ok-shape.ensures.value) c.in_err-place.ensures.value)

pub overflow_add-result : goal.overflow_add-result
overflow_add-result c =
    let low = number_low c.self.inside.nodes c.args.self.now c.self.inside.shapes c.self.inside.starts c.self.view_is c.self.invariant c.args.node _ _ _ (sym c.in_ok-shape.ensures.value) (sym c.in_ok-start.ensures.value) c.in_ok-place.ensures.value in
    omega arith

pub returns-clause-value : goal.returns-clause-value
returns-clause-value c = number_found c.self.inside.nodes c.args.self.now c.self.inside.shapes c.self.inside.starts c.self.view_is c.self.invariant c.args.node _ _ _ (sym c.in_ok-shape.ensures.value) (sym c.in_ok-start.ensures.value) c.in_ok-place.ensures.value

pub returns-clause-only : goal.returns-clause-only
returns-clause-only c = λ x is. number_only c.self.inside.nodes c.args.self.now c.self.inside.shapes c.self.inside.starts c.self.view_is c.self.invariant c.args.node _ _ _ x (sym c.in_ok-shape.ensures.value) (sym c.in_ok-start.ensures.value) c.in_ok-place.ensures.value is
