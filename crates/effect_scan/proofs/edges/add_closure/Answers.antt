use Rattle.std.proofs.Common.{◌<◌, length, get_or, set, arith}
use Rattle.std.proofs.lemmas.Result.{IfOk-weaker}
use Rattle.effect_scan.specs.declared.node.Member.TheVariants.{Method, Destruction}
use Rattle.effect_scan.specs.Nodes.{node}
use Rattle.effect_scan.specs.Effects.{Gathers}
use Rattle.effect_scan.specs.code.Adding.{Adds}
use Rattle.meta_model.specs.declared.qobject.TheConstants.{DESTROYED}
use Rattle.effect_scan.specs.code.NodePlaces.{InEach}
use Rattle.effect_scan.specs.code.Leading.{ClosureLeads}
use Rattle.effect_scan.proofs.Adding.{one_leads, none_leads}
use Rattle.effect_scan.proofs.Listing.{at_low}
use Rattle.effect_scan.proofs.Joined.{closure_both}
use Rattle.effect_scan.proofs.edges.add_closure.Goals as goal

pub bounds-rows-from : goal.bounds-rows-from
bounds-rows-from c = let low = at_low c.args.places.now.numbering (node c.args.class Destruction) c.in-Some.from c.in-Some.ensures.value in omega (arith, low, c.requires)

pub returns-in-Some : goal.returns-in-Some
returns-in-Some c =
    let low = at_low c.args.places.now.numbering (node c.args.class Destruction) c.in-Some.from c.in-Some.ensures.value in
    let inside : c.in-Some.from < length c.args.rows.now = omega (arith, low, c.requires) in
    IfOk-weaker c.lead_to_each.result (λ _. Gathers (InEach c.args.places.now.numbering c.args.closure.now (Method DESTROYED)) (get_or c.args.rows.now c.in-Some.from c.index-rows-from.result) c.lead_to_each.new.numbers)
    (λ _. Adds (ClosureLeads c.args.places.now c.args.class c.args.closure.now) c.args.rows.now (set c.args.rows.now c.in-Some.from c.lead_to_each.new.numbers))
    (λ x g. one_leads _ _ (ClosureLeads c.args.places.now c.args.class c.args.closure.now) (closure_both c.args.places.now c.args.class c.args.closure.now) c.in-Some.from c.in-Some.ensures.value c.in-Some.ensures.only c.args.rows.now _ _ inside g)
    c.lead_to_each.ensures

pub returns-in-None : goal.returns-in-None
returns-in-None c = none_leads _ _ (ClosureLeads c.args.places.now c.args.class c.args.closure.now) (closure_both c.args.places.now c.args.class c.args.closure.now) c.in-None.ensures.value _
