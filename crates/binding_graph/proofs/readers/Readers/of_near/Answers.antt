use Rattle.std.proofs.Common.{◌≡◌, ◌∙◌, ℕ, List, Some, ap, sym, arith}
use Rattle.std.specs.Prelude.{slice_get}
use Rattle.binding_graph.specs.declared.lists.Places.{Places}
use Rattle.binding_graph.specs.code.Lists.{keys_in}
use Rattle.binding_graph.proofs.Near.{found-at, same_pair}
use Rattle.binding_graph.proofs.readers.Readers.of_near.Goals as goal

pub returns : goal.returns
returns c =
    let object : c.in-Some.key.now.0 ≡ c.args.source.now.object = omega (arith, c.if-key-number.false, c.number.ensures) in
    let property : c.in-Some.key.now.1 ≡ c.args.source.now.property = omega (arith, c.if-key-source.false) in
    c.as_slice-2.ensures
    ∙ ap keys_in (sym (found-at c.args.self.now.by_source c.as_slice.ensures.unique c.args.likely.now (c.in-Some.key.now, c.in-Some.places.now) _
    (ap (λ (es : List ((ℕ × ℕ) × Places)). slice_get es c.args.likely.now) (sym c.as_slice.ensures.entries) ∙ sym c.in-Some.ensures.entry)
    (same_pair c.in-Some.key.now _ _ object property)))
