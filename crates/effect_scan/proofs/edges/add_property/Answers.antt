use Rattle.std.proofs.lemmas.Result.{IfOk-weaker}
use Rattle.effect_scan.proofs.Adding.{adds_same, adds_none}
use Rattle.effect_scan.proofs.Joined.{property_both, property_none}
use Rattle.effect_scan.specs.code.Leading.{PropertyLeads}
use Rattle.effect_scan.proofs.edges.add_property.Goals as goal

pub returns-in-Some : goal.returns-in-Some
returns-in-Some c =
    IfOk-weaker _ _ _
    (λ x adds. adds_same _ (PropertyLeads c.args.places.now c.args.class c.args.number c.args.property.now) _ _ adds (property_both c.args.places.now c.args.class c.args.number c.args.property.now _ _ c.in-Some.is c.named.ensures))
    c.add_notifier.ensures

pub returns-in-None : goal.returns-in-None
returns-in-None c = adds_none _ _ (property_none c.args.places.now c.args.class c.args.number c.args.property.now c.in-None.is)
