use Rattle.std.proofs.Common.{inl, inr, refl}
use Rattle.edge_reasons.proofs.Undrawn.{yes, no, also}
use Rattle.edge_reasons.proofs.Reading.{reads_literal, reads_path, reads_same, reads_left, reads_right, reads_either}
use Rattle.edge_reasons.proofs.reasons.+reads.Goals as goal

pub returns-in-Literal : goal.returns-in-Literal
returns-in-Literal t c = no (reads_literal c.args.meta.now c.args.formals.now c.args.from c.args.expression.now _ c.in-Literal.is)

pub returns-in-Path : goal.returns-in-Path
returns-in-Path t c = also c.is_source.ensures (reads_path c.args.meta.now c.args.formals.now c.args.from c.args.expression.now _ c.in-Path.is)

pub returns-in-Unary : goal.returns-in-Unary
returns-in-Unary t c = also c.reads.ensures (reads_same c.args.meta.now c.args.formals.now c.args.from c.args.expression.now _ _ _ c.in-Unary.is c.get.ensures)

pub returns-then-reads : goal.returns-then-reads
returns-then-reads t c =
    yes (reads_left c.args.meta.now c.args.formals.now c.args.from c.args.expression.now _ _ _ _ _ c.in-Binary.is c.get-in-Binary.ensures refl (c.reads-in-Binary.ensures.0 c.if-reads.true))

pub returns-else-reads : goal.returns-else-reads
returns-else-reads t c = (
  λ h. reads_right c.args.meta.now c.args.formals.now c.args.from c.args.expression.now _ _ _ _ _ c.in-Binary.is c.get-in-Binary.ensures c.get-in-Binary-2.ensures (c.reads-in-Binary-2.ensures.0 h),
  λ h.
      elim (reads_either c.args.meta.now c.args.formals.now c.args.from c.args.expression.now _ _ _ _ _ c.in-Binary.is c.get-in-Binary.ensures c.get-in-Binary-2.ensures h) [
        | inl first ↦ let on = c.reads-in-Binary.ensures.1 first in let off = c.if-reads.false in absurd (cc)
        | inr second ↦ c.reads-in-Binary-2.ensures.1 second
      ],
)
