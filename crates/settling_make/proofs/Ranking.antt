-- The least ranks of nodes, one component after another.
use Rattle.std.proofs.Common.{◌≡◌, inl, inr, ℕ, ◌+◌, ◌<◌, ◌≤◌, Bool, true, false, MatchBool, List, [], ◌∷◌, length, take, get_or, set, refl, sym, ap, ◌∙◌, subst, arith}
use Rattle.std.specs.List.{Contains}
use Rattle.std.proofs.lemmas.Bool.{cases_eq, cases_lt}
use Rattle.std.proofs.lemmas.List.{take_all, length-set, get_or-take, get_or-set_same, get_or-set_other, get_or_default}
use Rattle.effect_scan.specs.declared.node.Node.{Node}
use Rattle.effect_scan.specs.Rows.{row, Edge}
use Rattle.rank_check.specs.Valid.{most_bound}
use Rattle.rank_graph.proofs.Driving.{edge_inside}
use Rattle.rank_graph.specs.Walks.{LeadsBy}
use Rattle.settling_make.specs.declared.components.Components.{Components}
use Rattle.settling_make.specs.declared.margin.Margin.{Margin}
use Rattle.settling_make.specs.Components.{number_of}
use Rattle.settling_make.specs.Fits.{no_margin, margin_of, at_place, Falls, FitRanks, SilentEdge, AreLeastRanks, RanksAreHigh}
use Rattle.settling_make.specs.Ranking.{AreGiven, AreByHeight, RankedTo, IsNeed, AreNeeds, IsFloor, AreRaised}
use Rattle.settling_make.proofs.Taking.{one_of, one_more, none_taken, length_taken, taken_in, taken_at}

-- an element by its place
place_in : (xs : List ℕ) (a : ℕ) → Contains xs a → (j : ℕ) × (j < length xs) × (get_or xs j 0 ≡ a)
place_in xs a h = (h.0, h.1, get_or_default_zero_at xs h.0 a h.1 h.2)
  where
    get_or_default_zero_at : (l : List ℕ) (j x : ℕ) → j < length l → get_or l j x ≡ x → get_or l j 0 ≡ x
    get_or_default_zero_at l j x low is = get_or_default l j 0 x low ∙ is

module _ (nodes : List Node) (rows : List (List ℕ)) (found : Components) (height : ℕ → ℕ) (margins : List Margin) (given : AreGiven nodes rows found height margins) where
  abbrev Fit : (ℕ → ℕ) → Type 0
  Fit other = FitRanks nodes rows found.numbers margins other

  falls_down : (a b : ℕ) → Edge rows a b → number_of found.numbers b ≤ number_of found.numbers a
  falls_down a b edge = given.found_are.falls a b edge

  -- its component is one
  pub component_inside : (a : ℕ) → a < length rows → number_of found.numbers a < length margins
  component_inside a low =
      let among = (given.found_are.members a (number_of found.numbers a)).1 (low, refl) in
      let inside = edge_inside found.sets (number_of found.numbers a) a among in
      let count = given.margins_are.count in
      omega (arith, inside, count)

  -- ---- what the nodes of a component need
  module _ (k : ℕ) (k_low : k < length margins) (members : List ℕ) (by : AreByHeight (row found.sets k) height members) (before : List ℕ) (ranked : RankedTo nodes rows found.numbers margins k before) where
    pub member_of : (a : ℕ) → Contains members a → (a < length rows) × (number_of found.numbers a ≡ k)
    member_of a h = (given.found_are.members a k).0 (by.among a h)

    member_is : (a : ℕ) → a < length rows → number_of found.numbers a ≡ k → Contains members a
    member_is a low same = by.each a ((given.found_are.members a k).1 (low, same))

    pub height_low : (a : ℕ) → Contains members a → height a < most_bound
    height_low a h =
        let here = member_of a h in
        let low = given.margins_are.rounds a here.0 in
        let most = given.margins_are.low (number_of found.numbers a) in
        omega (arith, low, most)

    -- what the component asks, as it is read
    pub round_some : (d : Margin) → 0 < (get_or margins k d).round
    round_some d = let some = given.margins_are.some k in let e = ap (λ (x : Margin). x.round) (get_or_default margins k d no_margin k_low) in omega (arith, some, e)

    pub least_low : (d : Margin) → (get_or margins k d).least ≤ 1
    least_low d = let low = given.margins_are.least k in let e = ap (λ (x : Margin). x.least) (get_or_default margins k d no_margin k_low) in omega (arith, low, e)

    pub needs_none : AreNeeds nodes rows found.numbers margins k (take 0 members) before before
    needs_none = record {
      count = refl;
      others = λ a. inl refl;
      low = ranked.low;
      above = λ a h. absurd (none_taken members a h);
      over = λ a b h. absurd (none_taken members a h);
      least = λ other fit a h. absurd (none_taken members a h);
    }

    module _ (i : ℕ) (more : i < length members) (ranks : List ℕ) (was : AreNeeds nodes rows found.numbers margins k (take i members) before ranks) where
      m_in : Contains members (get_or members i 0)
      m_in = taken_in members (i + 1) (get_or members i 0) (one_more members i more)

      -- those before it have no greater height
      early_low : (a : ℕ) → Contains (take i members) a → height a ≤ height (get_or members i 0)
      early_low a h =
          let at = place_in (take i members) a h in
          let count = length_taken members i in
          let low : at.0 < i = let inside = at.1 in omega (arith, inside, count) in
          let here : get_or members at.0 0 ≡ a = sym (get_or-take i members at.0 0 low) ∙ at.2 in
          let order = by.order at.0 i 0 (omega (arith, low)) more in
          let e = ap height here in
          omega (arith, order, e)

      -- one of a lesser height is before it
      lower_early : (b : ℕ) → Contains members b → height b < height (get_or members i 0) → Contains (take i members) b
      lower_early b h low =
          let at = place_in members b h in
          elim (cases_lt at.0 i) [
            | inl early ↦ taken_at members i at.0 b early at.1 at.2
            | inr late ↦
                let order = by.order i at.0 0 late at.1 in
                let e = ap height at.2 in
                absurd (omega (arith, order, e, low))
          ]

      -- a node that it has to fall to is ranked: it isn't above its rank in any that fit
      target_least : (other : ℕ → ℕ) → Fit other → (b : ℕ) → Edge rows (get_or members i 0) b → Falls nodes found.numbers (get_or members i 0) b → at_place ranks b ≤ other b
      target_least other fit b edge down =
          let here = member_of (get_or members i 0) m_in in
          let b_low = given.inside (get_or members i 0) b edge in
          let step = falls_down (get_or members i 0) b edge in
          elim down [
            | inl apart ↦
                let same = here.1 in
                let below : number_of found.numbers b < k = omega (arith, step, same, apart) in
                let rest = ranked.least other fit b below b_low in
                elim (was.others b) [
                  | inl e ↦ omega (arith, e, rest)
                  | inr inside ↦ absurd (omega (arith, inside, below))
                ]
            | inr silent ↦
                let low = given.heights.falls (get_or members i 0) b (edge, silent) in
                was.least other fit b (lower_early b (member_is b b_low (sym silent.inside ∙ here.1)) low)
          ]

      module _ (need : ℕ) (d : Margin) (given_is : IsNeed nodes rows found.numbers ranks (get_or members i 0) (get_or margins k d).least need) where
        is : IsNeed nodes rows found.numbers ranks (get_or members i 0) (margin_of margins k).least need
        is = subst (λ (m : Margin). IsNeed nodes rows found.numbers ranks (get_or members i 0) m.least need) (get_or_default margins k d no_margin k_low) given_is

        need_low : (other : ℕ → ℕ) → Fit other → need ≤ other (get_or members i 0)
        need_low other fit =
            let here = member_of (get_or members i 0) m_in in
            elim is.met [
              | inl e ↦
                  let above = fit.above (get_or members i 0) here.0 in
                  let same = ap (λ (n : ℕ). (margin_of margins n).least) here.1 in
                  omega (arith, e, above, same)
              | inr at ↦
                  let low = target_least other fit at.0 at.1 at.2 in
                  let step = fit.falls (get_or members i 0) at.0 at.1 at.2 in
                  let e = at.3 in
                  omega (arith, low, step, e)
            ]

        pub needs_high : most_bound ≤ need → RanksAreHigh nodes rows found.numbers margins
        needs_high high other fit = (get_or members i 0, (member_of (get_or members i 0) m_in).0, (let low = need_low other fit in omega (arith, low, high)))

        module _ (small : need < most_bound) (after : List ℕ) (put : after ≡ set ranks (get_or members i 0) need) where
          m_low : get_or members i 0 < length ranks
          m_low = let low = (member_of (get_or members i 0) m_in).0 in let c = was.count in let d = ranked.count in omega (arith, low, c, d)

          here_is : (a : ℕ) → a ≡ get_or members i 0 → at_place after a ≡ need
          here_is a same = ap (at_place after) same ∙ ap (λ (l : List ℕ). get_or l (get_or members i 0) 0) put ∙ get_or-set_same ranks (get_or members i 0) need 0 m_low

          there_is : (a : ℕ) → (a ≡ get_or members i 0 → ⊥) → at_place after a ≡ at_place ranks a
          there_is a apart = ap (λ (l : List ℕ). get_or l a 0) put ∙ get_or-set_other ranks (get_or members i 0) a need 0 apart

          -- nothing before it has to fall to it
          none_over : (a : ℕ) → Contains (take i members) a → Edge rows a (get_or members i 0) → Falls nodes found.numbers a (get_or members i 0) → ⊥
          none_over a h edge down =
              let here = member_of (get_or members i 0) m_in in
              let from = member_of a (taken_in members i a h) in
              elim down [
                | inl apart ↦ apart (from.1 ∙ sym here.1)
                | inr silent ↦ let low = given.heights.falls a (get_or members i 0) (edge, silent) in let high = early_low a h in omega (arith, low, high)
              ]

          not_itself : Edge rows (get_or members i 0) (get_or members i 0) → Falls nodes found.numbers (get_or members i 0) (get_or members i 0) → ⊥
          not_itself edge down = elim down [
            | inl apart ↦ apart refl
            | inr silent ↦ let low = given.heights.falls (get_or members i 0) (get_or members i 0) (edge, silent) in omega (arith, low)
          ]

          over_now : (a b : ℕ) → Contains (take (i + 1) members) a → Edge rows a b → Falls nodes found.numbers a b → at_place after b < at_place after a
          over_now a b h edge down =
              elim (cases_eq a (get_or members i 0)) [
                | inl same ↦
                    let edge_ = subst (λ (n : ℕ). Edge rows n b) same edge in
                    let down_ = subst (λ (n : ℕ). Falls nodes found.numbers n b) same down in
                    elim (cases_eq b (get_or members i 0)) [
                      | inl also ↦
                          absurd (not_itself (subst (λ (n : ℕ). Edge rows (get_or members i 0) n) also edge_) (subst (λ (n : ℕ). Falls nodes found.numbers (get_or members i 0) n) also down_))
                      | inr apart ↦
                          let over = is.over b edge_ down_ in
                          let e = there_is b apart in
                          let f = here_is a same in
                          omega (arith, over, e, f)
                    ]
                | inr other ↦
                    let old : Contains (take i members) a = elim (one_of members i more a h) [ inl o ↦ o | inr now ↦ absurd (other (sym now)) ] in
                    elim (cases_eq b (get_or members i 0)) [
                      | inl also ↦ absurd (none_over a old (subst (λ (n : ℕ). Edge rows a n) also edge) (subst (λ (n : ℕ). Falls nodes found.numbers a n) also down))
                      | inr apart ↦
                          let over = was.over a b old edge down in
                          let e = there_is b apart in
                          let f = there_is a other in
                          omega (arith, over, e, f)
                    ]
              ]

          pub needs_more : AreNeeds nodes rows found.numbers margins k (take (i + 1) members) before after
          needs_more = record {
            count = let l = length-set ranks (get_or members i 0) need in let e = ap (λ (xs : List ℕ). length xs) put in let c = was.count in omega (arith, l, e, c);
            others = λ a.
                elim (cases_eq a (get_or members i 0)) [
                  | inl same ↦ inr (ap (number_of found.numbers) same ∙ (member_of (get_or members i 0) m_in).1)
                  | inr apart ↦ elim (was.others a) [ inl e ↦ inl (there_is a apart ∙ e) | inr n ↦ inr n ]
                ];
            low = λ a.
                elim (cases_eq a (get_or members i 0)) [
                  | inl same ↦ let e = here_is a same in omega (arith, e, small)
                  | inr apart ↦ let e = there_is a apart in let l = was.low a in omega (arith, e, l)
                ];
            above = λ a h.
                elim (cases_eq a (get_or members i 0)) [
                  | inl same ↦ let e = here_is a same in let l = is.above in omega (arith, e, l)
                  | inr apart ↦
                      let e = there_is a apart in
                      elim (one_of members i more a h) [
                        | inl old ↦ let l = was.above a old in omega (arith, e, l)
                        | inr now ↦ absurd (apart (sym now))
                      ]
                ];
            over = over_now;
            least = λ other fit a h.
                elim (cases_eq a (get_or members i 0)) [
                  | inl same ↦ let e = here_is a same in let l = need_low other fit in let f = ap other same in omega (arith, e, l, f)
                  | inr apart ↦
                      let e = there_is a apart in
                      elim (one_of members i more a h) [
                        | inl old ↦ let l = was.least other fit a old in omega (arith, e, l)
                        | inr now ↦ absurd (apart (sym now))
                      ]
                ];
          }

    pub needs_all : (i : ℕ) (ranks : List ℕ) → length members ≤ i → AreNeeds nodes rows found.numbers margins k (take i members) before ranks → AreNeeds nodes rows found.numbers margins k members before ranks
    needs_all i ranks past is = subst (λ (l : List ℕ). AreNeeds nodes rows found.numbers margins k l before ranks) (take_all i members past) is

    -- ---- the floor
    module _ (ranks : List ℕ) (needs : AreNeeds nodes rows found.numbers margins k members before ranks) (floor : ℕ) (d : Margin) (given_is : IsFloor ranks members (get_or margins k d) floor) where
      floor_is : IsFloor ranks members (margin_of margins k) floor
      floor_is = subst (λ (m : Margin). IsFloor ranks members m floor) (get_or_default margins k d no_margin k_low) given_is

      floor_low : (other : ℕ → ℕ) → Fit other → (z : ℕ) → z < length rows → number_of found.numbers z ≡ k → floor ≤ other z
      floor_low other fit z low here =
          elim floor_is.met [
            | inl e ↦
                let above = fit.above z low in
                let same = ap (λ (n : ℕ). (margin_of margins n).least) here in
                omega (arith, e, above, same)
            | inr at ↦
                let y = member_of at.0 at.1 in
                let need = needs.least other fit at.0 at.1 in
                let close = fit.close z at.0 low y.0 (here ∙ sym y.1) in
                let same = ap (λ (n : ℕ). (margin_of margins n).round) here in
                let e = at.2 in
                omega (arith, need, close, same, e)
          ]

      -- along a chain inside the rank falls
      chain_low : (other : ℕ → ℕ) → Fit other → (a : ℕ) (along : List ℕ) (to : ℕ) → LeadsBy (SilentEdge nodes rows found.numbers) a along to → a < length rows
          → (other to + length along ≤ other a) × (to < length rows) × (number_of found.numbers a ≡ number_of found.numbers to)
      chain_low other fit a [] to leads low =
          let same : a ≡ to = leads in
          let e = ap other same in
          (omega (arith, e), omega (arith, low, same), ap (number_of found.numbers) same)
      chain_low other fit a (w ∷ ws) to leads low =
          let rest = chain_low other fit w ws to leads.1 (given.inside a w leads.0.0) in
          let step = fit.falls a w leads.0.0 (inr leads.0.1) in
          let far = rest.0 in
          (omega (arith, far, step), rest.1, leads.0.1.inside ∙ rest.2)

      raise_low : (other : ℕ → ℕ) → Fit other → (a : ℕ) → Contains members a → floor + height a ≤ other a
      raise_low other fit a h =
          let here = member_of a h in
          let chain = given.heights.chain a here.0 in
          let low = chain_low other fit a chain.0 chain.1 chain.2 here.0 in
          let base = floor_low other fit chain.1 low.1 (sym low.2 ∙ here.1) in
          let far = low.0 in
          let e = chain.3 in
          omega (arith, base, far, e)

      pub raise_high : (a : ℕ) → Contains members a → most_bound ≤ floor + height a → RanksAreHigh nodes rows found.numbers margins
      raise_high a h high other fit = (a, (member_of a h).0, (let low = raise_low other fit a h in omega (arith, low, high)))

      module _ (after : List ℕ) (raised : AreRaised members floor height ranks after) where
        -- nothing changes of the other components
        same_apart : (a : ℕ) → (number_of found.numbers a ≡ k → ⊥) → at_place after a ≡ at_place before a
        same_apart a apart =
            elim (raised.either a) [
              | inl e ↦ elim (needs.others a) [ inl f ↦ e ∙ f | inr n ↦ absurd (apart n) ]
              | inr up ↦ absurd (apart (member_of a up.0).1)
            ]

        need_apart : (a : ℕ) → (number_of found.numbers a ≡ k → ⊥) → at_place ranks a ≡ at_place before a
        need_apart a apart = elim (needs.others a) [ inl f ↦ f | inr n ↦ absurd (apart n) ]

        falls_now : (a b : ℕ) → number_of found.numbers a < k + 1 → Edge rows a b → Falls nodes found.numbers a b → at_place after b < at_place after a
        falls_now a b low edge down =
            let a_low = edge_inside rows a b edge in
            let step = falls_down a b edge in
            elim (cases_eq (number_of found.numbers a) k) [
              | inl here ↦
                  let h = member_is a a_low here in
                  let over = needs.over a b h edge down in
                  let grows = raised.grows a in
                  elim down [
                    | inl apart ↦
                        let off : number_of found.numbers b ≡ k → ⊥ = λ e. apart (here ∙ sym e) in
                        let e = same_apart b off in
                        let f = need_apart b off in
                        omega (arith, over, grows, e, f)
                    | inr silent ↦
                        let height_low = given.heights.falls a b (edge, silent) in
                        let high = raised.raised a h in
                        elim (raised.either b) [
                          | inl e ↦ omega (arith, over, grows, e)
                          | inr up ↦ let e = up.1 in omega (arith, height_low, high, e)
                        ]
                  ]
              | inr other ↦
                  let below : number_of found.numbers a < k = omega (arith, low, other) in
                  let e = same_apart a other in
                  let f = same_apart b (λ s. omega (arith, s, step, below)) in
                  let was = ranked.falls a b below edge down in
                  omega (arith, e, f, was)
            ]

        close_now : (a b : ℕ) → number_of found.numbers a < k + 1 → a < length rows → b < length rows → number_of found.numbers a ≡ number_of found.numbers b
            → at_place after b < at_place after a + (margin_of margins (number_of found.numbers a)).round
        close_now a b low a_low b_low same =
            elim (cases_eq (number_of found.numbers a) k) [
              | inl here ↦
                  let h = member_is a a_low here in
                  let g = member_is b b_low (sym same ∙ here) in
                  let high = raised.raised a h in
                  let close = floor_is.close b g in
                  let round = ap (λ (n : ℕ). (margin_of margins n).round) here in
                  let round_ = given.margins_are.rounds b b_low in
                  let round__ = ap (λ (n : ℕ). (margin_of margins n).round) same in
                  elim (raised.either b) [
                    | inl e ↦ omega (arith, high, close, round, e)
                    | inr up ↦ let e = up.1 in omega (arith, high, round_, round__, e)
                  ]
              | inr other ↦
                  let below : number_of found.numbers a < k = omega (arith, low, other) in
                  let e = same_apart a other in
                  let f = same_apart b (λ s. other (same ∙ s)) in
                  let was = ranked.close a b below a_low b_low same in
                  omega (arith, e, f, was)
            ]

        pub ranked_more : RankedTo nodes rows found.numbers margins (k + 1) after
        ranked_more = record {
          count = let c = raised.count in let d = needs.count in let e = ranked.count in omega (arith, c, d, e);
          low = raised.low;
          falls = falls_now;
          above = λ a low a_low.
              elim (cases_eq (number_of found.numbers a) k) [
                | inl here ↦
                    let above = needs.above a (member_is a a_low here) in
                    let grows = raised.grows a in
                    let same = ap (λ (n : ℕ). (margin_of margins n).least) here in
                    omega (arith, above, grows, same)
                | inr other ↦
                    let e = same_apart a other in
                    let was = ranked.above a (omega (arith, low, other)) a_low in
                    omega (arith, e, was)
              ];
          close = close_now;
          least = λ other fit a low a_low.
              elim (cases_eq (number_of found.numbers a) k) [
                | inl here ↦
                    let h = member_is a a_low here in
                    elim (raised.either a) [
                      | inl e ↦ let l = needs.least other fit a h in omega (arith, e, l)
                      | inr up ↦ let l = raise_low other fit a h in let e = up.1 in omega (arith, e, l)
                    ]
                | inr apart ↦
                    let e = same_apart a apart in
                    let was = ranked.least other fit a (omega (arith, low, apart)) a_low in
                    omega (arith, e, was)
              ];
        }

      pub raised_told : (after : List ℕ) (r : Bool) → MatchBool r (AreRaised members floor height ranks after) ((a : ℕ) × Contains members a × (most_bound ≤ floor + height a))
          → MatchBool r (RankedTo nodes rows found.numbers margins (k + 1) after) (RanksAreHigh nodes rows found.numbers margins)
      raised_told after true raised = ranked_more after raised
      raised_told after false high = raise_high high.0 high.1 high.2

  pub ranked_all : (k : ℕ) (ranks : List ℕ) → length margins ≤ k → RankedTo nodes rows found.numbers margins k ranks → AreLeastRanks nodes rows found.numbers margins ranks
  ranked_all k ranks past to = record {
    count = to.count;
    fit = record {
      falls = λ a b edge down. to.falls a b (all_low a (edge_inside rows a b edge)) edge down;
      above = λ a low. to.above a (all_low a low) low;
      close = λ a b low. to.close a b (all_low a low) low;
    };
    low = to.low;
    least = λ other fit a low. to.least other fit a (all_low a low) low;
  }
    where
      all_low : (a : ℕ) → a < length rows → number_of found.numbers a < k
      all_low a low = let inside = component_inside a low in omega (arith, inside, past)
