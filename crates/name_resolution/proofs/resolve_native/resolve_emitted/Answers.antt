use Rattle.std.proofs.Common.{sym, rules}
use Rattle.class_outlines.specs.declared.fault.MetaFault.TheVariants as fault
use Rattle.class_outlines.proofs.Loading.{lacking}
use Rattle.class_outlines.proofs.Zips.{zip_push}
use Rattle.name_resolution.proofs.resolve_native.resolve_emitted.Goals as goal

pub loop-sig-preserved : goal.loop-sig-preserved
loop-sig-preserved c =
    zip_push _ _ _ _ _ _ _ c.loop-sig-test.true c.sig-item.is (search rules) c.loop-sig.invariant c.in_ok-push.ensures.ok

pub returns-in_default : goal.returns-in_default
returns-in_default c =
    lacking fault.NoMember _ _ c.no_end.ensures (c.loop-sig.sig-index, c.sig-item.result, c.loop-sig-test.true, sym c.sig-item.is, c.in_default.ensures)
