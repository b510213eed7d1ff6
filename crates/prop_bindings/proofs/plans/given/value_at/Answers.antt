use Rattle.std.proofs.Common.{◌≡◌, ◌∙◌, ℕ, List, ap, sym, arith}
use Rattle.std.specs.Prelude.{slice_get}
use Rattle.basic_types.specs.declared.value.Value.{Value}
use Rattle.binding_graph.proofs.Near.{found-at, same_pair}
use Rattle.prop_bindings.proofs.plans.given.value_at.Goals as goal

pub returns : goal.returns
returns c =
    let object : c.in_ok-key.key.now.0 ≡ c.args.place.now.object = omega (arith, c.if-key-number.false, c.number.ensures) in
    let property : c.in_ok-key.key.now.1 ≡ c.args.place.now.property = omega (arith, c.if-key-place.false) in
    found-at c.args.values.now c.as_slice.ensures.unique c.args.position (c.in_ok-key.key.now, c.in_ok-key.value.now) _
    (ap (λ (es : List ((ℕ × ℕ) × Value)). slice_get es c.args.position) (sym c.as_slice.ensures.entries) ∙ sym c.in_ok-key.ensures.entry)
    (same_pair c.in_ok-key.key.now _ _ object property)
