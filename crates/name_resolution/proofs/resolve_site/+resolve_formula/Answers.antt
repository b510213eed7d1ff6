use Rattle.std.proofs.Common.{inr, refl}
use Rattle.name_resolution.proofs.SitePieces.{literal_piece, path_piece, no_path, unary_piece, binary_piece}
use Rattle.name_resolution.proofs.resolve_site.+resolve_formula.Goals as goal

pub returns-in_ok-value-in-Literal : goal.returns-in_ok-value-in-Literal
returns-in_ok-value-in-Literal t c = rw (c.in-Literal.is, c.in_ok-value-in-Literal.ensures) (literal_piece _ _ _)

pub returns-in_ok-operand-in-Unary-2 : goal.returns-in_ok-operand-in-Unary-2
returns-in_ok-operand-in-Unary-2 t c =
    rw (c.in-Unary.is, c.in_ok-operand-in-Unary-2.ensures) (unary_piece _ _ _ _ _ (rw c.get.ensures at c.in_ok-operand-in-Unary.ensures))

pub returns-in_ok-right-in-Binary-2 : goal.returns-in_ok-right-in-Binary-2
returns-in_ok-right-in-Binary-2 t c =
    rw (c.in-Binary.is, c.in_ok-left-in-Binary-2.ensures, c.in_ok-right-in-Binary-2.ensures)
    (binary_piece _ _ _ _ _ _ _ (rw c.get-in-Binary.ensures at c.in_ok-left-in-Binary.ensures) (rw c.get-in-Binary-2.ensures at c.in_ok-right-in-Binary.ensures))

pub returns-in_default : goal.returns-in_default
returns-in_default t c = rw c.in-Path.is (inr (c.no_source.ensures, no_path _ _ _ c.in_default.ensures))

pub returns-in-Some : goal.returns-in-Some
returns-in-Some t c = rw c.in-Path.is (path_piece _ _ _ _ _ c.in-Some.ensures)
