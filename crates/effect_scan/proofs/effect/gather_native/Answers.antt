use Rattle.effect_scan.proofs.Doing.{done_both}
use Rattle.effect_scan.proofs.effect.gather_native.Goals as goal

pub returns : goal.returns
returns c =
    done_both c.gather_sets.result c.args.native.now _ _ _ _ _ c.as_slice.ensures c.as_slice-2.ensures c.in_ok-gather_emits.ensures c.gather_sets.ensures
