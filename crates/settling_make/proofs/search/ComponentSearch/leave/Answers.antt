use Rattle.std.proofs.Common.{◌<◌, ◌≤◌, List, [], ◌∷◌, ◌++◌, ℕ, length, get_or, refl, ap, ◌∙◌, arith, subst}
use Rattle.std.specs.List.{Contains}
use Rattle.std.proofs.lemmas.List.Elements.{Contains-get_or}
use Rattle.settling_make.proofs.Searching.{leaves_none, leaves_more, leaves_all}
use Rattle.settling_make.proofs.search.ComponentSearch.leave.Goals as goal

pub loop-member-init : goal.loop-member-init
loop-member-init c = record { left = leaves_none _ _ _; sets = refl; entered = refl }

pub set-requires : goal.set-requires
set-requires c =
    let items = c.as_slice-member-items.result.now in
    let held = Contains-get_or items c.loop-member.member-index 0 c.loop-member-test.true in
    let low = c.requires _ (subst (λ (l : List ℕ). Contains l (get_or items c.loop-member.member-index 0)) c.as_slice-member-items.ensures held) in
    omega (arith, low, c.loop-member.invariant.left.count)

pub loop-member-preserved : goal.loop-member-preserved
loop-member-preserved c =
    let items = c.as_slice-member-items.result.now in
    let held = Contains-get_or items c.loop-member.member-index 0 c.loop-member-test.true in
    let low = c.requires _ (subst (λ (l : List ℕ). Contains l (get_or items c.loop-member.member-index 0)) c.as_slice-member-items.ensures held) in
    let inside : get_or items c.loop-member.member-index 0 < length c.loop-member.self.states = omega (arith, low, c.loop-member.invariant.left.count) in
    record {
      left = leaves_more _ _ _ _ _ _ _ c.loop-member-test.true refl inside c.set.ensures c.loop-member.invariant.left;
      sets = c.loop-member.invariant.sets;
      entered = c.loop-member.invariant.entered;
    }

pub returns : goal.returns
returns c =
    let past : length c.as_slice-member-items.result.now ≤ c.loop-member.member-index = omega arith in
    leaves_all _ _ _ _ _ _ _ c.len-number.ensures c.as_slice-member-items.ensures past c.loop-member.invariant.left refl
    (c.in_ok-push.ensures.ok ∙ ap (λ (l : List (List ℕ)). l ++ c.args.members ∷ []) c.loop-member.invariant.sets) c.loop-member.invariant.entered
