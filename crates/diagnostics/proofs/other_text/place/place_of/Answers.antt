use Rattle.std.proofs.Common.{◌≡◌, ℕ, ◌<◌, List, length, map, ap, sym, ◌∙◌, Bor, arith}
use Rattle.std.proofs.lemmas.List.{length-map}
use Rattle.diagnostics.proofs.Counting.{few_parts, lent_line, lent_column, lent_file, lent_other_line, lent_other_column}
use Rattle.diagnostics.proofs.other_text.place.place_of.Goals as goal

pub returns-in_default : goal.returns-in_default
returns-in_default c =
    let now : Bor (List ℕ) → List ℕ = λ part. part.now in
    few_parts (map now c.in_ok-parts.parts) c.in_ok-parts.ensures
    (omega (arith, length-map c.in_ok-parts.parts now, ap (λ (ps : List (Bor (List ℕ))). length ps) c.as_slice.ensures, c.in_default.len_below))

pub returns-in_default-count : goal.returns-in_default-count
returns-in_default-count c =
    lent_line (λ (part : Bor (List ℕ)). part.now) c.args.line.now c.as_slice.result.now _ (omega (arith, c.in-len6-up.len_at_least))
    (rw c.as_slice.ensures c.in_ok-parts.ensures) c.in_default-count.ensures

pub returns-in_default-count-2 : goal.returns-in_default-count-2
returns-in_default-count-2 c =
    lent_column (λ (part : Bor (List ℕ)). part.now) c.args.line.now c.as_slice.result.now _ (omega (arith, c.in-len6-up.len_at_least))
    (rw c.as_slice.ensures c.in_ok-parts.ensures) c.in_default-count-2.ensures

pub returns-in_default-count-3 : goal.returns-in_default-count-3
returns-in_default-count-3 c =
    lent_other_line (λ (part : Bor (List ℕ)). part.now) c.args.line.now c.as_slice.result.now _ (omega (arith, c.in-len6-up.len_at_least))
    (rw c.as_slice.ensures c.in_ok-parts.ensures) c.in_default-count-3.ensures

pub returns-in_default-count-4 : goal.returns-in_default-count-4
returns-in_default-count-4 c =
    lent_other_column (λ (part : Bor (List ℕ)). part.now) c.args.line.now c.as_slice.result.now _ (omega (arith, c.in-len6-up.len_at_least))
    (rw c.as_slice.ensures c.in_ok-parts.ensures) c.in_default-count-4.ensures

pub returns-then-is_empty : goal.returns-then-is_empty
returns-then-is_empty c =
    lent_file (λ (part : Bor (List ℕ)). part.now) c.args.line.now c.as_slice.result.now _ (omega (arith, c.in-len6-up.len_at_least))
    (rw c.as_slice.ensures c.in_ok-parts.ensures) (sym c.is_empty.ensures ∙ c.if-is_empty.true)
