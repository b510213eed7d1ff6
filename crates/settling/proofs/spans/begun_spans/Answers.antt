use Rattle.name_indexes.proofs.Zips.{zip_push}
use Rattle.settling.specs.declared.certificate.SettlingSet.{SettlingSet}
use Rattle.settling.specs.declared.spans.Span.{Span}
use Rattle.settling.specs.code.Spans.{IsBegun}
use Rattle.settling.proofs.spans.begun_spans.Goals as goal

pub loop-set-preserved : goal.loop-set-preserved
loop-set-preserved c =
    zip_push (λ (set : SettlingSet) (span : Span). IsBegun set.round span) c.args.sets.now _ _ c.loop-set.set-index c.set-item.result _ c.loop-set-test.true c.set-item.is c.begun.ensures c.loop-set.invariant c.in_ok-push.ensures.ok
