use Rattle.std.proofs.Common.{sym, ◌∙◌}
use Rattle.std.proofs.lemmas.Option.{none-some}
use Rattle.std.proofs.lemmas.Result.{IfOk-weaker}
use Rattle.effect_scan.specs.declared.node.Member.TheVariants.{Property}
use Rattle.effect_scan.specs.code.NodePlaces.{AreJust, InBelow, IsRead}
use Rattle.effect_scan.proofs.Listing.{just_none, read_there}
use Rattle.effect_scan.proofs.edges.read_one.Goals as goal

pub returns-in-Some : goal.returns-in-Some
returns-in-Some c =
    let places = c.args.places.now in
    IfOk-weaker c.below.result (AreJust (InBelow places c.in-Some.class.now (Property c.args.source.property))) (AreJust (IsRead places c.args.formals.now c.args.source))
    (λ found just. read_there places c.args.formals.now c.args.source _ _ (sym c.in-Some.ensures) just) c.below.ensures

pub returns-in-None : goal.returns-in-None
returns-in-None c = rw c.new.ensures (just_none (IsRead c.args.places.now c.args.formals.now c.args.source) (λ n h. none-some _ (c.in-None.ensures ∙ h.1)))
