use Rattle.std.proofs.Common.{◌≡◌, ℕ, length, sym, ap, subst, arith}
use Rattle.meta_model.specs.Members.{Below}
use Rattle.program_flaws.proofs.IdleRows.{Tells, tells-none, tells-more, row-tells}
use Rattle.program_flaws.proofs.warned.lineage.row_of.Goals as goal

pub loop-other-init : goal.loop-other-init
loop-other-init c = subst (Tells (λ d. Below c.args.meta.now c.args.class d) 0) (sym c.new-row.ensures) (tells-none _)

pub loop-other-preserved : goal.loop-other-preserved
loop-other-preserved c = tells-more _ _ _ _ _ c.loop-other.invariant c.inherits.ensures c.in_ok-push.ensures.ok

pub returns : goal.returns
returns c =
    let size = ap length c.classes-other-end.ensures.value in
    let end : c.loop-other.other ≡ length c.args.meta.now.classes = omega arith in
    row-tells _ _ _ (subst (λ (n : ℕ). Tells (λ d. Below c.args.meta.now c.args.class d) n c.loop-other.row) end c.loop-other.invariant)
