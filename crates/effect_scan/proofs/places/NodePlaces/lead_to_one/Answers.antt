use Rattle.std.proofs.Common.{◌≡◌, [], ◌∷◌, ◌++◌}
use Rattle.std.proofs.lemmas.Result.{IfOk-weaker}
use Rattle.effect_scan.specs.Nodes.{IsAt}
use Rattle.effect_scan.specs.Effects.{Gathers}
use Rattle.effect_scan.proofs.Occurring.{gathers_one, gathers_none}
use Rattle.effect_scan.proofs.places.NodePlaces.lead_to_one.Goals as goal

pub returns-in-Some : goal.returns-in-Some
returns-in-Some c =
    let P = IsAt c.args.self.now.numbering c.args.node in
    IfOk-weaker c.add.result (λ _. c.add.new.self ≡ c.args.numbers.now ++ c.in-Some.number ∷ []) (λ _. Gathers P c.args.numbers.now c.add.new.self)
    (λ x e. gathers_one P _ _ _ e c.in-Some.ensures.value c.in-Some.ensures.only) c.add.ensures

pub returns-in-None : goal.returns-in-None
returns-in-None c = gathers_none (IsAt c.args.self.now.numbering c.args.node) _ c.in-None.ensures.value
