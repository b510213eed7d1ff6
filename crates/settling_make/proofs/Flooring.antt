-- What one node needs, the floor of a component, and what is raised to it.
use Rattle.std.proofs.Common.{◌≡◌, ◌⊎◌, inl, inr, ℕ, ◌+◌, ◌<◌, ◌≤◌, List, length, take, get_or, set, refl, sym, ap, ◌∙◌, subst, arith}
use Rattle.std.specs.List.{Contains}
use Rattle.std.proofs.lemmas.Bool.{cases_eq}
use Rattle.std.proofs.lemmas.List.{length-set, get_or-set_same, get_or-set_other}
use Rattle.effect_scan.specs.declared.node.Node.{Node}
use Rattle.effect_scan.specs.Rows.{row}
use Rattle.rank_check.specs.Valid.{most_bound}
use Rattle.settling_make.specs.declared.margin.Margin.{Margin}
use Rattle.settling_make.specs.Fits.{at_place, Falls}
use Rattle.settling_make.specs.Ranking.{IsHighest, IsNeed, IsFloor, AreRaised}
use Rattle.settling_make.proofs.Taking.{one_of, one_more, none_taken, all_taken, taken_in}

-- ---- what one node needs
-- the first of the targets were looked at
pub record NeedTo (nodes : List Node) (rows : List (List ℕ)) (numbers ranks : List ℕ) (a least : ℕ) (targets : List ℕ) (end need : ℕ) : Type 0 where
  pub above : least ≤ need
  pub over : (b : ℕ) → Contains (take end targets) b → Falls nodes numbers a b → at_place ranks b < need
  pub met : (need ≡ least) ⊎ ((b : ℕ) × Contains targets b × Falls nodes numbers a b × (at_place ranks b + 1 ≡ need))

module _ (nodes : List Node) (rows : List (List ℕ)) (numbers ranks : List ℕ) (a least : ℕ) (targets : List ℕ) where
  To : ℕ → ℕ → Type 0
  To end need = NeedTo nodes rows numbers ranks a least targets end need

  pub need_none : NeedTo nodes rows numbers ranks a least targets 0 least
  need_none = record { above = omega arith; over = λ b h down. absurd (none_taken targets b h); met = inl refl }

  module _ (end : ℕ) (more : end < length targets) (need : ℕ) (was : NeedTo nodes rows numbers ranks a least targets end need) where
    pub need_more : (next : ℕ) → Falls nodes numbers a (get_or targets end 0) → need ≤ next → at_place ranks (get_or targets end 0) < next
        → (next ≡ need) ⊎ (next ≡ at_place ranks (get_or targets end 0) + 1) → NeedTo nodes rows numbers ranks a least targets (end + 1) next
    need_more next down least_ over from = record {
      above = let l = was.above in omega (arith, l, least_);
      over = λ b h to.
          elim (one_of targets end more b h) [
            | inl old ↦ let l = was.over b old to in omega (arith, l, least_)
            | inr same ↦ let e = ap (at_place ranks) same in omega (arith, e, over)
          ];
      met = elim from [
        | inl e ↦ elim was.met [
          | inl f ↦ inl (e ∙ f)
          | inr at ↦ inr (at.0, at.1, at.2, at.3 ∙ sym e)
        ]
        | inr e ↦ inr (get_or targets end 0, taken_in targets (end + 1) (get_or targets end 0) (one_more targets end more), down, sym e)
      ];
    }

    pub need_kept : (¬ Falls nodes numbers a (get_or targets end 0)) → NeedTo nodes rows numbers ranks a least targets (end + 1) need
    need_kept up = record {
      above = was.above;
      over = λ b h to.
          elim (one_of targets end more b h) [
            | inl old ↦ was.over b old to
            | inr same ↦ absurd (up (subst (λ (n : ℕ). Falls nodes numbers a n) (sym same) to))
          ];
      met = was.met;
    }

  pub need_all : (end need : ℕ) → targets ≡ row rows a → length targets ≤ end → NeedTo nodes rows numbers ranks a least targets end need → IsNeed nodes rows numbers ranks a least need
  need_all end need same past to = record {
    above = to.above;
    over = λ b edge down. to.over b (all_taken targets end b past (subst (λ (l : List ℕ). Contains l b) (sym same) edge)) down;
    met = elim to.met [
      | inl e ↦ inl e
      | inr at ↦ inr (at.0, subst (λ (l : List ℕ). Contains l at.0) same at.1, at.2, at.3)
    ];
  }

-- ---- the floor
pub floor_is : (highest floor : ℕ) (margin : Margin) (values members : List ℕ) → IsHighest values members highest → 0 < margin.round → margin.least ≤ floor
    → highest + 1 ≤ floor + margin.round → (floor ≡ margin.least) ⊎ (floor + margin.round ≡ highest + 1) → IsFloor values members margin floor
floor_is highest floor margin values members is some above close from = record {
  above = above;
  close = λ a h. let l = is.above a h in omega (arith, l, close);
  met = elim from [
    | inl e ↦ inl e
    | inr e ↦ elim is.met [
      | inl none ↦ inl (omega (arith, none, e, some, above))
      | inr at ↦ inr (at.0, at.1, (let f = at.2 in omega (arith, e, f)))
    ]
  ];
}

-- ---- raised to it
-- the first of the members were
pub record RaisedTo (members : List ℕ) (floor : ℕ) (height : ℕ → ℕ) (before : List ℕ) (end : ℕ) (ranks : List ℕ) : Type 0 where
  pub count : length ranks ≡ length before
  pub low : (a : ℕ) → at_place ranks a < most_bound
  pub grows : (a : ℕ) → at_place before a ≤ at_place ranks a
  pub either : (a : ℕ) → (at_place ranks a ≡ at_place before a) ⊎ (Contains members a × (at_place ranks a ≡ floor + height a))
  pub raised : (a : ℕ) → Contains (take end members) a → floor + height a ≤ at_place ranks a

module _ (members : List ℕ) (floor : ℕ) (height : ℕ → ℕ) (before : List ℕ) where
  pub raised_none : ((a : ℕ) → at_place before a < most_bound) → RaisedTo members floor height before 0 before
  raised_none low = record { count = refl; low = low; grows = λ a. omega arith; either = λ a. inl refl; raised = λ a h. absurd (none_taken members a h) }

  module _ (end : ℕ) (more : end < length members) (ranks : List ℕ) (was : RaisedTo members floor height before end ranks) where
    pub raised_kept : floor + height (get_or members end 0) ≤ at_place ranks (get_or members end 0) → RaisedTo members floor height before (end + 1) ranks
    raised_kept high = record {
      count = was.count;
      low = was.low;
      grows = was.grows;
      either = was.either;
      raised = λ a h.
          elim (one_of members end more a h) [
            | inl old ↦ was.raised a old
            | inr same ↦ let e = ap (at_place ranks) same in let f = ap height same in omega (arith, e, f, high)
          ];
    }

    pub raised_up : (value : ℕ) (after : List ℕ) → value ≡ floor + height (get_or members end 0) → at_place ranks (get_or members end 0) < value → value < most_bound
        → get_or members end 0 < length ranks → after ≡ set ranks (get_or members end 0) value → RaisedTo members floor height before (end + 1) after
    raised_up value after is up small inside put = record {
      count = let l = length-set ranks (get_or members end 0) value in let e = ap (λ (xs : List ℕ). length xs) put in let c = was.count in omega (arith, l, e, c);
      low = λ a.
          elim (cases_eq a (get_or members end 0)) [
            | inl same ↦ let e = here a same in omega (arith, e, small)
            | inr apart ↦ let e = there a apart in let l = was.low a in omega (arith, e, l)
          ];
      grows = λ a.
          elim (cases_eq a (get_or members end 0)) [
            | inl same ↦ let e = here a same in let g = was.grows a in let f = ap (at_place ranks) same in omega (arith, e, g, f, up)
            | inr apart ↦ let e = there a apart in let g = was.grows a in omega (arith, e, g)
          ];
      either = λ a.
          elim (cases_eq a (get_or members end 0)) [
            | inl same ↦
                inr (subst (λ (n : ℕ). Contains members n) (sym same) (taken_in members (end + 1) (get_or members end 0) (one_more members end more)), here a same ∙ is ∙ ap (λ (n : ℕ). floor + height n) (sym same))
            | inr apart ↦ elim (was.either a) [
              | inl e ↦ inl (there a apart ∙ e)
              | inr up_ ↦ inr (up_.0, there a apart ∙ up_.1)
            ]
          ];
      raised = λ a h.
          elim (cases_eq a (get_or members end 0)) [
            | inl same ↦ let e = here a same in let f = ap height same in omega (arith, e, f, is)
            | inr apart ↦ elim (one_of members end more a h) [
              | inl old ↦ let e = there a apart in let r = was.raised a old in omega (arith, e, r)
              | inr now ↦ absurd (apart (sym now))
            ]
          ];
    }
      where
        here : (a : ℕ) → a ≡ get_or members end 0 → at_place after a ≡ value
        here a same = ap (at_place after) same ∙ ap (λ (l : List ℕ). get_or l (get_or members end 0) 0) put ∙ get_or-set_same ranks (get_or members end 0) value 0 inside

        there : (a : ℕ) → (a ≡ get_or members end 0 → ⊥) → at_place after a ≡ at_place ranks a
        there a apart = ap (λ (l : List ℕ). get_or l a 0) put ∙ get_or-set_other ranks (get_or members end 0) a value 0 apart

  pub raised_all : (end : ℕ) (ranks : List ℕ) → length members ≤ end → RaisedTo members floor height before end ranks → AreRaised members floor height before ranks
  raised_all end ranks past to = record { count = to.count; low = to.low; grows = to.grows; either = to.either; raised = λ a h. to.raised a (all_taken members end a past h) }
