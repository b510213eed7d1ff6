-- Levels of one set stand together, and carry one value (docs/settling-proof.md, "Each rule keeps it").
use Rattle.std.proofs.Common.{◌≡◌, ℕ, zero, suc, ◌+◌, ◌<◌, ◌≤◌, List, [], ◌∷◌, Option, Some, None, slice_get, refl, sym, ap, ◌∙◌, subst, arith}
use Rattle.std.proofs.lemmas.Option.{same_Some, none-some}
use Rattle.meta_model.specs.Loaded.{Loaded}
use Rattle.object_tree.specs.declared.object.Object.{Object}
use Rattle.object_tree.specs.Seen.{seen}
use Rattle.settling.specs.declared.certificate.SettlingLine.{SettlingLine}
use Rattle.settling.specs.declared.certificate.SettlingSet.{SettlingSet}
use Rattle.settling.specs.declared.certificate.SettlingCertificate.{SettlingCertificate}
use Rattle.settling.specs.Sets.{IsMember}
use Rattle.settled_runs.specs.Levels.{Carried, Level, AreCosts, Leaves, Climbs, inside, apart, IsOfSet, AreLevels}

module _ (p : Loaded) {certificate : SettlingCertificate} (cost : ℕ → ℕ) (classes : ℕ → Option ℕ) (objects : List Object) (costs : AreCosts p certificate cost) where
  one-step : (k : ℕ) {a b : Level certificate} → IsOfSet p classes k a → IsOfSet p classes k b → a.line.step ≡ b.line.step
  one-step k x y =
      let round = (costs k x.member.set x.member.stands).0 in
      let same : y.member.set ≡ x.member.set = same_Some _ _ (sym y.member.stands ∙ x.member.stands) in
      let member = subst (λ (s : SettlingSet). IsMember p s y.node) same y.member.member in
      x.step ∙ round.one_step x.node y.node x.line y.line x.member.member member x.is y.is ∙ sym y.step

  pub some-cost : (k : ℕ) {a : Level certificate} → IsOfSet p classes k a → 0 < cost k
  some-cost k x =
      let own = costs k x.member.set x.member.stands in
      let some = own.0.some in
      omega (arith, some, own.1)

  -- Steps don't rise; and where they don't fall from a level in a set, all above it is in the set.
  pub record IsUnder (top l : Level certificate) : Type 0 where
    pub step : top.line.step ≤ l.line.step
    pub one : (c : Carried) → l.within ≡ Some c → top.line.step ≡ l.line.step → (d : Carried) × (top.within ≡ Some d) × (d.set ≡ c.set) × (seen objects d.value ≡ seen objects c.value)

  pub left-low : (w : Option Carried) (lower upper : SettlingLine) → Leaves cost w lower upper → upper.step ≤ lower.step
  left-low None lower upper step = step
  left-low (Some c) lower upper step = omega (arith, step)

  under-next : (top m l : Level certificate) (levels : List (Level certificate)) → ((c : Carried) → m.within ≡ Some c → IsOfSet p classes c.set m) → Climbs cost objects levels m top → IsUnder m l → IsUnder top l
  under-next top m l levels well (inside i) below = record {
    step = let low = below.step in omega (arith, low, i.step);
    one = λ c is even.
        let lower = below.one c is (sym i.step ∙ even) in
        let same : i.carried ≡ lower.0 = same_Some _ _ (sym i.is ∙ lower.1) in (
          i.above,
          i.is_above,
          i.one ∙ ap (λ (d : Carried). d.set) same ∙ lower.2,
          i.value ∙ ap (λ (d : Carried). seen objects d.value) same ∙ lower.3,
        );
  }
  under-next top m l levels well (apart a) below = record {
    step = let low = below.step in let left = left-low m.within m.line top.line a.step in omega (arith, low, left);
    one = λ c is even.
        let low = below.step in
        let left = left-low m.within m.line top.line a.step in
        let lower = below.one c is (omega (arith, low, left, even)) in
        let some = some-cost lower.0.set (well lower.0 lower.1) in
        let fall : top.line.step + cost lower.0.set ≤ m.line.step = subst (λ (w : Option Carried). Leaves cost w m.line top.line) lower.1 a.step in
        absurd (omega (arith, some, fall, low, even));
  }

  pub under : (top : Level certificate) (levels : List (Level certificate)) → AreLevels p cost classes objects (top ∷ levels) → (j : ℕ) (l : Level certificate) → slice_get (top ∷ levels) j ≡ Some l → IsUnder top l
  under top levels are zero l at =
      subst (λ (x : Level certificate). IsUnder top x) (same_Some top l at) (record { step = omega arith; one = λ c is even. (c, is, refl, refl) })
  under top [] are (suc j) l at = absurd (none-some l at)
  under top (m ∷ levels) are (suc j) l at = under-next top m l (m ∷ levels) are.2.0 are.1.climbs (under m levels are.2 j l at)

  pub well-at : (levels : List (Level certificate)) → AreLevels p cost classes objects levels → (j : ℕ) (l : Level certificate) → slice_get levels j ≡ Some l → (c : Carried) → l.within ≡ Some c → IsOfSet p classes c.set l
  well-at [] are j l at c is = absurd (none-some l at)
  well-at (top ∷ levels) are zero l at c is =
      subst (λ (x : Level certificate). IsOfSet p classes c.set x) (same_Some top l at) (are.0 c (ap (λ (x : Level certificate). x.within) (same_Some top l at) ∙ is))
  well-at (top ∷ levels) are (suc j) l at c is = well-at levels are.2 j l at c is

  with-top : (top : Level certificate) (levels : List (Level certificate)) → AreLevels p cost classes objects (top ∷ levels) → (j : ℕ) (b : Level certificate) (here there : Carried) → slice_get (top ∷ levels) j ≡ Some b
      → top.within ≡ Some here → b.within ≡ Some there → here.set ≡ there.set → seen objects here.value ≡ seen objects there.value
  with-top top levels are j b here there at is_here is_there same =
      let lower = subst (λ (k : ℕ). IsOfSet p classes k b) (sym same) (well-at (top ∷ levels) are j b at there is_there) in
      let found = (under top levels are j b at).one there is_there (one-step here.set {a = top} {b = b} (are.0 here is_here) lower) in
      ap (λ (c : Carried). seen objects c.value) (same_Some _ _ (sym is_here ∙ found.1)) ∙ found.3

  pub carry-one : (levels : List (Level certificate)) → AreLevels p cost classes objects levels → (i j : ℕ) (a b : Level certificate) (here there : Carried) → slice_get levels i ≡ Some a → slice_get levels j ≡ Some b
      → a.within ≡ Some here → b.within ≡ Some there → here.set ≡ there.set → seen objects here.value ≡ seen objects there.value
  carry-one [] are i j a b here there at_a at_b is_here is_there same = absurd (none-some a at_a)
  carry-one (top ∷ levels) are zero j a b here there at_a at_b is_here is_there same =
      with-top top levels are j b here there at_b (ap (λ (x : Level certificate). x.within) (same_Some top a at_a) ∙ is_here) is_there same
  carry-one (top ∷ levels) are (suc i) zero a b here there at_a at_b is_here is_there same =
      sym (with-top top levels are (suc i) a there here at_a (ap (λ (x : Level certificate). x.within) (same_Some top b at_b) ∙ is_there) is_here (sym same))
  carry-one (top ∷ levels) are (suc i) (suc j) a b here there at_a at_b is_here is_there same = carry-one levels are.2 i j a b here there at_a at_b is_here is_there same
