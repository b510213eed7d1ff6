use Rattle.std.proofs.Common.{sym}
use Rattle.std.proofs.lemmas.Bool.{ltb-true, ltb-false}
use Rattle.command_lines.proofs.Described.{lines_at, lines_past}
use Rattle.command_lines.proofs.Sending.{none_so_far, more_so_far, all_so_far}
use Rattle.command_lines.proofs.meta_line.Output+W.methods.Goals as goal

pub loop-method-preserved : goal.loop-method-preserved
loop-method-preserved g c =
    let found = c.in-Some.ensures.lookup in
    more_so_far (rw (lines_at c.args.methods.now c.loop-method.number c.in-Some.method.now (ltb-true _ _ (sym found.0)) found.1) at c.loop-method.invariant) (rw c.get-in-Some.ensures at c.method.ensures)

pub returns : goal.returns
returns g c = all_so_far (rw (lines_past c.args.methods.now c.loop-method.number (ltb-false _ _ (sym c.in_default.ensures.lookup.0))) at c.loop-method.invariant)

pub loop-method-init : goal.loop-method-init
loop-method-init g c = none_so_far _ _ _
