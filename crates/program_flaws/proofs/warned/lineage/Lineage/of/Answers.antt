use Rattle.std.proofs.Common.{◌≡◌, length, sym, ap, subst, arith}
use Rattle.program_flaws.proofs.IdleRows.{AreRows, rows-none, rows-more, lineage-is}
use Rattle.program_flaws.proofs.warned.lineage.Lineage.of.Goals as goal

pub loop-class-init : goal.loop-class-init
loop-class-init c = subst (AreRows c.args.meta.now 0) (sym c.new-rows.ensures) (rows-none _)

pub loop-class-preserved : goal.loop-class-preserved
loop-class-preserved c = rows-more _ _ _ _ _ c.loop-class.invariant c.in_ok-row.ensures c.in_ok-push.ensures.ok

pub returns : goal.returns
returns c =
    let size = ap length c.classes-class-end.ensures.value in
    let end : c.loop-class.class ≡ length c.args.meta.now.classes = omega arith in
    lineage-is _ _ _ c.loop-class.invariant end
