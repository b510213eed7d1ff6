use Rattle.std.proofs.Common.{◌<◌, length, get_or, set, arith}
use Rattle.std.proofs.lemmas.Result.{IfOk-weaker}
use Rattle.effect_scan.specs.declared.node.Member.TheVariants.{Method, Property}
use Rattle.effect_scan.specs.Nodes.{node, IsAt}
use Rattle.effect_scan.specs.Effects.{Gathers}
use Rattle.effect_scan.specs.code.Adding.{Adds}
use Rattle.effect_scan.specs.code.Leading.{Notifies}
use Rattle.effect_scan.proofs.Adding.{one_leads, none_leads}
use Rattle.effect_scan.proofs.Listing.{at_low}
use Rattle.effect_scan.proofs.Joined.{notify_both}
use Rattle.effect_scan.proofs.edges.add_notifier.Goals as goal

pub bounds-rows-from : goal.bounds-rows-from
bounds-rows-from c = let low = at_low c.args.places.now.numbering (node c.args.class (Property c.args.property)) c.in-Some.from c.in-Some.ensures.value in omega (arith, low, c.requires)

pub returns-in-Some : goal.returns-in-Some
returns-in-Some c =
    let low = at_low c.args.places.now.numbering (node c.args.class (Property c.args.property)) c.in-Some.from c.in-Some.ensures.value in
    let inside : c.in-Some.from < length c.args.rows.now = omega (arith, low, c.requires) in
    IfOk-weaker c.lead_to_one.result (λ _. Gathers (IsAt c.args.places.now.numbering (node c.args.class (Method c.args.signal))) (get_or c.args.rows.now c.in-Some.from c.index-rows-from.result) c.lead_to_one.new.numbers)
    (λ _. Adds (Notifies c.args.places.now c.args.class c.args.property c.args.signal) c.args.rows.now (set c.args.rows.now c.in-Some.from c.lead_to_one.new.numbers))
    (λ x g. one_leads _ _ (Notifies c.args.places.now c.args.class c.args.property c.args.signal) (notify_both c.args.places.now c.args.class c.args.property c.args.signal) c.in-Some.from c.in-Some.ensures.value c.in-Some.ensures.only c.args.rows.now _ _ inside g)
    c.lead_to_one.ensures

pub returns-in-None : goal.returns-in-None
returns-in-None c = none_leads _ _ (Notifies c.args.places.now c.args.class c.args.property c.args.signal) (notify_both c.args.places.now c.args.class c.args.property c.args.signal) c.in-None.ensures.value _
