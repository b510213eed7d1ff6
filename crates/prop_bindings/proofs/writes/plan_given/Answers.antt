use Rattle.std.proofs.Common.{◌≡◌, List, length, ap, sym, subst, arith}
use Rattle.object_tree.specs.declared.object.Object.{Object}
use Rattle.binding_graph.specs.declared.place.Place.{Place}
use Rattle.binding_graph.specs.declared.binding.Binding.{Binding}
use Rattle.binding_graph.specs.Places.{Distinct, In}
use Rattle.prop_bindings.specs.Values.{values_in}
use Rattle.binding_graph.specs.Bindings.{binding_at}
use Rattle.prop_bindings.specs.Changes.{places_in}
use Rattle.prop_bindings.specs.Plans.{after}
use Rattle.binding_graph.specs.code.Graph.{bindings_of}
use Rattle.binding_graph.specs.code.Orders.{AreBound, pass}
use Rattle.prop_bindings.specs.code.Parts.{AreSound, ahead}
use Rattle.prop_bindings.proofs.Calling.{lead-to}
use Rattle.prop_bindings.proofs.Giving.{given-only, given-sound}
use Rattle.prop_bindings.proofs.Settling.{affected-away, affected-bound}
use Rattle.prop_bindings.proofs.EachOnce.{once-distinct}
use Rattle.prop_bindings.proofs.Wrote.{wrote-sound}
use Rattle.prop_bindings.proofs.writes.plan_given.Goals as goal

pub followers-requires-clause-given : goal.followers-requires-clause-given
followers-requires-clause-given c = c.requires.given.2.given.keyed

pub plan-requires-clause-different : goal.plan-requires-clause-different
plan-requires-clause-different c = subst Distinct (sym c.requires.given.2.given.each) (once-distinct (places_in c.requires.given.1))

pub plan-requires-clause-given : goal.plan-requires-clause-given
plan-requires-clause-given c = given-only c.args.values c.requires.given.1 c.args.targets.now c.requires.given.2.given c.args.tree.now

pub plan-requires-clause-sound : goal.plan-requires-clause-sound
plan-requires-clause-sound c = given-sound c.args.values c.args.tree.now (bindings_of c.args.graph.now) c.args.targets.now c.requires.given

pub plan-requires-clause-bound : goal.plan-requires-clause-bound
plan-requires-clause-bound c =
    subst (λ (ps : List Place). AreBound (binding_at (bindings_of c.args.graph.now)) ps) (sym c.deref.ensures.value)
    (affected-bound (bindings_of c.args.graph.now) c.args.targets.now c.in_ok-followers.followers.items c.in_ok-followers.ensures)

pub plan-requires-clause-distinct : goal.plan-requires-clause-distinct
plan-requires-clause-distinct c = subst Distinct (sym c.deref.ensures.value) c.in_ok-followers.ensures.distinct

pub plan-requires-clause-others : goal.plan-requires-clause-others
plan-requires-clause-others c = λ q i j.
    affected-away (bindings_of c.args.graph.now) c.args.targets.now c.in_ok-followers.followers.items c.in_ok-followers.ensures q i (subst (In q) c.deref.ensures.value j)

pub returns : goal.returns
returns c = λ p writes may.
    let bs : List Binding = bindings_of c.args.graph.now in
    let fs : List Place = c.in_ok-followers.followers.items in
    let mid : List Object = ahead c.args.values c.args.tree.now in
    let plan = c.in_ok-planned.planned in
    let agree = may.agree in
    let values = subst (λ (ps : List Place). (q : Place) → values_in (after plan c.args.tree.now) q ≡ pass (binding_at bs) ps (values_in mid) q) c.deref.ensures.value c.in_ok-planned.ensures.values in
    let begun = may.given.begun c.args.tree.now in
    let sound = c.in_ok-planned.ensures.sound p (subst (λ (xs : List Object). AreSound p xs bs) (sym begun) (wrote-sound p bs writes c.args.tree.now (agree.typed, agree.fit) may.fits)) in
    let count : plan.evaluated ≡ length fs = omega (arith, c.in_ok-planned.ensures.counted, ap length c.deref.ensures.value) in
    lead-to p bs c.args.tree.now mid (after plan c.args.tree.now) writes c.args.targets.now fs agree may.fits may.given.each begun c.in_ok-followers.ensures values
    plan.changed plan.evaluated c.in_ok-planned.ensures.objects c.in_ok-planned.ensures.changed sound count
