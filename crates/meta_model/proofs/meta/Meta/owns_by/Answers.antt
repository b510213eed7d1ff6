use Rattle.std.proofs.Common.{length, refl, subst}
use Rattle.meta_model.specs.Indexes.{IndexesOwners}
use Rattle.meta_model.specs.Loaded.{Loaded}
use Rattle.meta_model.specs.code.Declared.{MayOwn}
use Rattle.meta_model.proofs.ClassPlaces.{Walks, begins, goes_on, walked, fewer}
use Rattle.meta_model.proofs.meta.Meta.owns_by.Goals as goal

pub places-init : goal.places-init
places-init c =
    let p = c.args.self.now in
    let index = subst (λ (p : Loaded). IndexesOwners p.owns (length p.classes) c.self.inside.owned_by) c.self.view_is c.self.invariant.4 in
    rw c.last_of-place.ensures (begins p (λ o. o.parent) p.owns (MayOwn p c.args.child) c.args.class c.self.inside.owned_by index)

pub returns-then-is_child_at : goal.returns-then-is_child_at
returns-then-is_child_at c =
    let p = c.args.self.now in
    let walks = subst (Walks p (λ o. o.parent) p.owns (MayOwn p c.args.child) c.args.class) c.in-Some.is c.places.invariant in
    (λ _. (c.in-Some.at, record { there = walks.there; belongs = walks.belongs; holds = c.is_child_at.ensures.0 c.if-is_child_at.true }), λ _. refl)

pub places-preserved : goal.places-preserved
places-preserved c =
    let p = c.args.self.now in
    let index = subst (λ (p : Loaded). IndexesOwners p.owns (length p.classes) c.self.inside.owned_by) c.self.view_is c.self.invariant.4 in
    let walks = subst (Walks p (λ o. o.parent) p.owns (MayOwn p c.args.child) c.args.class) c.in-Some.is c.places.invariant in
    rw c.earlier_of-place.ensures (goes_on p (λ o. o.parent) p.owns (MayOwn p c.args.child) c.args.class c.self.inside.owned_by index c.in-Some.at walks (λ at. let t = c.is_child_at.ensures.1 at in cc)).0

pub places-smaller : goal.places-smaller
places-smaller c =
    let p = c.args.self.now in
    let index = subst (λ (p : Loaded). IndexesOwners p.owns (length p.classes) c.self.inside.owned_by) c.self.view_is c.self.invariant.4 in
    let walks = subst (Walks p (λ o. o.parent) p.owns (MayOwn p c.args.child) c.args.class) c.in-Some.is c.places.invariant in
    rw c.earlier_of-place.ensures (rw c.in-Some.is (fewer c.in-Some.at _ (goes_on p (λ o. o.parent) p.owns (MayOwn p c.args.child) c.args.class c.self.inside.owned_by index c.in-Some.at walks (λ at. let t = c.is_child_at.ensures.1 at in cc)).1))

pub returns : goal.returns
returns c =
    let p = c.args.self.now in
    (λ t. absurd (cc), λ from. absurd (walked p (λ o. o.parent) p.owns (MayOwn p c.args.child) c.args.class c.places.place c.in_default.is c.places.invariant from.0 from.1))
