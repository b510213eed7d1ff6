use Rattle.std.proofs.Common.{◌≡◌, ◌++◌}
use Rattle.std.proofs.lemmas.Result.{IfOk-weaker}
use Rattle.effect_scan.specs.Effects.{Gathers}
use Rattle.effect_scan.specs.code.NodePlaces.{InEach}
use Rattle.effect_scan.proofs.Gathering.{gathers_found}
use Rattle.effect_scan.proofs.places.NodePlaces.lead_to_each.Goals as goal

pub returns : goal.returns
returns c =
    let P = InEach c.args.self.now.numbering c.args.classes.now c.args.member in
    IfOk-weaker c.add_all.result (λ _. c.add_all.new.self ≡ c.args.numbers.now ++ c.as_slice.result.now) (λ _. Gathers P c.args.numbers.now c.add_all.new.self)
    (λ x e. gathers_found P P _ _ _ _ _ (λ n. (λ h. h, λ h. h)) c.new-found.ensures c.in_ok-add_each.ensures c.as_slice.ensures e)
    c.add_all.ensures
