use Rattle.std.proofs.Common.{◌∙◌}
use Rattle.std.proofs.lemmas.Option.{none-some}
use Rattle.edge_reasons.proofs.Undrawn.{no, does_so, does_it}
use Rattle.edge_reasons.proofs.reasons.ReasonSearch.is_done_by.Goals as goal

pub returns-in-Some : goal.returns-in-Some
returns-in-Some c =
    let s = c.args.self.now in (
      λ h. does_so s.meta.now s.class s.types.now s.to c.args.statement.now c.in-Some.effect c.in-Some.ensures (c.reaches.ensures.0 h),
      λ d. c.reaches.ensures.1 (does_it s.meta.now s.class s.types.now s.to c.args.statement.now c.in-Some.effect c.in-Some.ensures d),
    )

pub returns-in-None : goal.returns-in-None
returns-in-None c = no (λ d. none-some _ (c.in-None.ensures ∙ d.is))
