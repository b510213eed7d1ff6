use Rattle.std.proofs.Common.{sym, ◌∙◌}
use Rattle.std.proofs.lemmas.Option.{slice_get-get_or, none-some}
use Rattle.settling.proofs.RoundsOfNodes.{node_told}
use Rattle.settling.proofs.resting.node_holds.Goals as goal

pub returns-in-Some : goal.returns-in-Some
returns-in-Some c =
    node_told c.args.meta.now c.args.standings.now c.args.targets.now c.args.standing c.args.spans.now c.in-Some.set _ c.in-Some.is (slice_get-get_or c.args.spans.now c.in-Some.set _ (c.requires.inside c.in-Some.set c.in-Some.is)) _ c.member_holds.ensures

pub returns-in-None : goal.returns-in-None
returns-in-None c = λ k span of at. absurd (none-some k (sym c.in-None.is ∙ of))
