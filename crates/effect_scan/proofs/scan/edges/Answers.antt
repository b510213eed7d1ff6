use Rattle.std.proofs.Common.{◌≡◌, ◌∙◌, ℕ, List, length, ap}
use Rattle.std.proofs.lemmas.List.{length-replicate}
use Rattle.std.proofs.lemmas.Result.{IfOk-weaker}
use Rattle.effect_scan.proofs.Gathered.{written_back}
use Rattle.effect_scan.proofs.Whole.{edges_are}
use Rattle.effect_scan.proofs.scan.edges.Goals as goal

pub add_own-requires : goal.add_own-requires
add_own-requires c = ap (λ (l : List (List ℕ)). length l) (c.as_mut_slice.ensures.value ∙ (rw c.nodes.ensures at c.in_ok-rows.ensures)) ∙ length-replicate _ _

pub add_wires-requires : goal.add_wires-requires
add_wires-requires c =
    let begun = ap (λ (l : List (List ℕ)). length l) (c.as_mut_slice.ensures.value ∙ (rw c.nodes.ensures at c.in_ok-rows.ensures)) ∙ length-replicate _ _ in
    let own = c.in_ok-add_own.ensures in
    let count = own.closures.count ∙ own.notifiers.count ∙ own.works.count in
    let back = written_back _ _ _ _ c.as_mut_slice.ensures.value c.as_mut_slice.ensures.len count in
    ap (λ (l : List (List ℕ)). length l) (c.in_ok-families.ensures ∙ back) ∙ count ∙ begun

pub add_sites-requires : goal.add_sites-requires
add_sites-requires c =
    let begun = ap (λ (l : List (List ℕ)). length l) (c.as_mut_slice.ensures.value ∙ (rw c.nodes.ensures at c.in_ok-rows.ensures)) ∙ length-replicate _ _ in
    let own = c.in_ok-add_own.ensures in
    let count = own.closures.count ∙ own.notifiers.count ∙ own.works.count in
    let back = written_back _ _ _ _ c.as_mut_slice.ensures.value c.as_mut_slice.ensures.len count in
    c.in_ok-add_wires.ensures.count ∙ ap (λ (l : List (List ℕ)). length l) (c.in_ok-families.ensures ∙ back) ∙ count ∙ begun

pub returns-clause-edges : goal.returns-clause-edges
returns-clause-edges c =
    let own = c.in_ok-add_own.ensures in
    let count = own.closures.count ∙ own.notifiers.count ∙ own.works.count in
    let back = written_back _ _ _ _ c.as_mut_slice.ensures.value c.as_mut_slice.ensures.len count in
    let empty = c.as_mut_slice.ensures.value ∙ (rw c.nodes.ensures at c.in_ok-rows.ensures) in
    IfOk-weaker _ _ _
    (λ x ordered.
    edges_are c.args.meta.now c.args.places.now c.requires.places c.args.closures.now c.requires.closures _ _ _ _ _ _ _ _ empty own.works own.notifiers own.closures (c.in_ok-families.ensures ∙ back)
    (rw c.wires.ensures at c.in_ok-add_wires.ensures) (rw c.sites.ensures.value at c.in_ok-add_sites.ensures) ordered)
    c.in_order.ensures.order
