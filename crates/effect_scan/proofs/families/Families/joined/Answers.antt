use Rattle.std.proofs.Common.{◌≡◌, ℕ, List, [], ◌∷◌, ◌++◌, length, take, drop, ap, subst, arith}
use Rattle.effect_scan.specs.code.Adding.{Adds, Joins}
use Rattle.effect_scan.specs.code.Families.{gathered}
use Rattle.effect_scan.proofs.Gathered.{length_gathered, written_adds, joined_named, joined_adds}
use Rattle.effect_scan.proofs.families.Families.joined.Goals as goal

pub join-requires : goal.join-requires
join-requires c = λ a h.
    let low = c.requires a h in
    let whole = ap (λ (l : List (List ℕ)). length l) c.self.view_is in
    let own = length_gathered c.self.inside.lists c.self.inside.own.items c.self.inside.named.items in
    let there = ap (λ (l : List (List ℕ)). length l) c.as_mut_slice.ensures.value in
    omega (arith, low, whole, own, there, c.self.invariant.count)

pub invariant_of-result : goal.invariant_of-result
invariant_of-result c =
    let adds = written_adds (Joins c.args.sources.now (c.in_ok-number.number ∷ [])) _ _ _ _ c.as_mut_slice.ensures.value c.as_mut_slice.ensures.len c.in_ok-join.ensures in
    joined_named _ _ _ _ _ c.args.sources.now c.args.targets.now c.in_ok-number.number c.self.invariant c.in_ok-number.ensures adds

pub returns : goal.returns
returns c =
    let adds = written_adds (Joins c.args.sources.now (c.in_ok-number.number ∷ [])) _ _ _ _ c.as_mut_slice.ensures.value c.as_mut_slice.ensures.len c.in_ok-join.ensures in
    subst (λ (l : List (List ℕ)). Adds (Joins c.args.sources.now c.args.targets.now) l (gathered c.number_of.new.lists c.self.inside.own.items (take c.self.inside.named.len (c.join.new.rows ++ drop (length c.join.new.rows) c.self.inside.named.items)))) c.self.view_is
    (joined_adds c.self.inside.lists c.number_of.new.lists c.self.inside.own.items c.self.inside.named.items _ c.args.sources.now c.args.targets.now c.in_ok-number.number c.self.invariant c.in_ok-number.ensures adds)
