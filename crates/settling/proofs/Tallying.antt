-- What the nodes of a set have in common, node by node.
use Rattle.std.proofs.Common.{◌≡◌, ◌⊎◌, inl, inr, ℕ, ◌+◌, ◌<◌, ◌≤◌, min, List, [], ◌∷◌, length, slice_get, Option, None, Some, refl, sym, ap, ◌∙◌, subst, arith}
use Rattle.std.specs.List.{Contains}
use Rattle.std.proofs.lemmas.Bool.{cases_eq, cases_lt}
use Rattle.std.proofs.lemmas.Option.{slice_get_within, same_Some, none-some}
use Rattle.meta_model.specs.Members.{IsIn}
use Rattle.meta_model.specs.Sound.{AreOnce}
use Rattle.effect_scan.specs.declared.node.Node.{Node}
use Rattle.effect_scan.specs.declared.node.Member.{Member}
use Rattle.effect_scan.specs.declared.node.Member.TheVariants.{Method, Property, Destruction}
use Rattle.effect_scan.specs.Nodes.{node}
use Rattle.name_indexes.proofs.Zips.{place_of_any, zip_left, zip_right}
use Rattle.class_sets.proofs.Firsts.{no_members}
use Rattle.rank_check.proofs.Elements.{element_at}
use Rattle.rank_check.proofs.Placing.{zip_count}
use Rattle.settling.specs.declared.certificate.SettlingSet.{SettlingSet}
use Rattle.settling.specs.declared.standings.Standing.{Standing}
use Rattle.settling.specs.declared.spans.Span.{Span}
use Rattle.settling.specs.Settles.{IsProperty}
use Rattle.settling.specs.code.Spans.{greatest, IsBegun, IsCounted, IsNext, OfSet, HasProperty, AreAmong, IsMet, IsSpan, AddsNode, AreBegun, AreInOrder, AreSpans}
use Rattle.settling.proofs.Fitting.{fit, in_front, place_in}

pub is_property_or : (x : Node) → IsProperty x ⊎ (¬ IsProperty x)
is_property_or x = by_member x.member refl
  where
    by_member : (m : Member) → x.member ≡ m → IsProperty x ⊎ (¬ IsProperty x)
    by_member (Property q) e = inl (record { number = q; is = e })
    by_member (Method m) e = inr (λ h. let other = h.is in cc)
    by_member Destruction e = inr (λ h. let other = h.is in cc)

abbrev number_of : Member → ℕ
number_of (Property q) = q
number_of (Method m) = m
number_of Destruction = 0

module _ (standings : List Standing) (k : ℕ) where
  -- the properties of the last class with one, each once
  pub record IsRun (end class count : ℕ) : Type 0 where
    pub run : List ℕ
    pub are : AreAmong standings end k class run
    pub counted : length run ≡ count
    pub complete : (q : ℕ) → HasProperty standings end k class q → IsIn q run
    pub latest : (c q : ℕ) → HasProperty standings end k c q → c ≤ class

  pub record IsTally (end : ℕ) (span : Span) : Type 0 where
    pub span_is : IsSpan standings end k span
    pub rank_now : IsMet standings end k (λ t. t.rank ≡ span.rank) ⊎ (greatest ≤ span.rank)
    pub step_now : IsMet standings end k (λ t. t.step ≡ span.step) ⊎ (greatest ≤ span.step)
    pub run : IsRun end span.class span.count
    pub low : span.count ≤ end
    pub reached : (n : ℕ) (t : Standing) → end ≤ n → slice_get standings n ≡ Some t → span.class ≤ t.node.class

  -- ---- none yet
  none_of : (n : ℕ) (s : Standing) → OfSet standings 0 k n s → ⊥
  none_of n s of = omega (arith, of.low)

  pub tally_begun : (round : ℕ) (span : Span) → IsBegun round span → IsTally 0 span
  tally_begun round span b = record {
    span_is = record {
      rank = λ n s of. absurd (none_of n s of);
      rank_met = λ n s of. absurd (none_of n s of);
      step = λ n s of. absurd (none_of n s of);
      step_met = λ n s of. absurd (none_of n s of);
      some = omega (arith, b.one);
      few = λ c qs among. by_list c qs among;
      many = inl b.one;
    };
    rank_now = inr (omega (arith, b.rank));
    step_now = inr (omega (arith, b.step));
    run = record {
      run = [];
      are = record { each = λ q among. absurd (omega (arith, among.1)); once = λ twice. twice };
      counted = sym b.none;
      complete = λ q has. absurd (none_of has.number has.standing has.of);
      latest = λ c q has. absurd (none_of has.number has.standing has.of);
    };
    low = omega (arith, b.none);
    reached = λ n t behind at. omega (arith, b.first);
  }
    where
      by_list : (c : ℕ) (qs : List ℕ) → AreAmong standings 0 k c qs → length qs ≤ span.most
      by_list c [] among = omega arith
      by_list c (q ∷ qs) among = let has = among.each q (in_front q qs) in absurd (none_of has.number has.standing has.of)

  module _ (end : ℕ) where
    -- ---- what was met stays
    older : (n : ℕ) (s : Standing) → OfSet standings end k n s → OfSet standings (end + 1) k n s
    older n s of = record { low = omega (arith, of.low); is = of.is; set = of.set }

    older_property : (c q : ℕ) → HasProperty standings end k c q → HasProperty standings (end + 1) k c q
    older_property c q has = record { number = has.number; standing = has.standing; of = older has.number has.standing has.of; is = has.is }

    older_among : (c : ℕ) (qs : List ℕ) → AreAmong standings end k c qs → AreAmong standings (end + 1) k c qs
    older_among c qs among = record { each = λ q in_qs. older_property c q (among.each q in_qs); once = among.once }

    older_met : (P : Standing → Type 0) → IsMet standings end k P → IsMet standings (end + 1) k P
    older_met P met = record { number = met.number; standing = met.standing; of = older met.number met.standing met.of; has = met.has }

    older_many : (most : ℕ) → (most ≡ 1) ⊎ ((c : ℕ) × (qs : List ℕ) × AreAmong standings end k c qs × (length qs ≡ most))
        → (most ≡ 1) ⊎ ((c : ℕ) × (qs : List ℕ) × AreAmong standings (end + 1) k c qs × (length qs ≡ most))
    older_many most (inl one) = inl one
    older_many most (inr w) = inr (w.0, w.1, older_among w.0 w.1 w.2, w.3)

    module _ (s : Standing) (at : slice_get standings end ≡ Some s) where
      newest : (n : ℕ) (t : Standing) → OfSet standings (end + 1) k n t → OfSet standings end k n t ⊎ ((t ≡ s) × (n ≡ end))
      newest n t of =
          elim (cases_lt n end) [
            | inl early ↦ inl (record { low = early; is = of.is; set = of.set })
            | inr late ↦
                let now : n ≡ end = omega (arith, of.low, late) in
                inr (same_Some t s (sym (subst (λ (x : ℕ). slice_get standings x ≡ Some t) now of.is) ∙ at), now)
          ]

      -- ---- a node of no set, or of another one
      module _ (apart : ¬ (s.set ≡ Some k)) where
        only_old : (n : ℕ) (t : Standing) → OfSet standings (end + 1) k n t → OfSet standings end k n t
        only_old n t of = elim (newest n t of) [ inl old ↦ old | inr new ↦ absurd (apart (subst (λ (x : Standing). x.set ≡ Some k) new.0 of.set)) ]

        only_property : (c q : ℕ) → HasProperty standings (end + 1) k c q → HasProperty standings end k c q
        only_property c q has = record { number = has.number; standing = has.standing; of = only_old has.number has.standing has.of; is = has.is }

        pub tally_kept : (span : Span) → IsTally end span → IsTally (end + 1) span
        tally_kept span h = record {
          span_is = record {
            rank = λ n t of. h.span_is.rank n t (only_old n t of);
            rank_met = λ n t of. older_met (λ x. x.rank ≡ span.rank) (h.span_is.rank_met n t (only_old n t of));
            step = λ n t of. h.span_is.step n t (only_old n t of);
            step_met = λ n t of. older_met (λ x. x.step ≡ span.step) (h.span_is.step_met n t (only_old n t of));
            some = h.span_is.some;
            few = λ c qs among. h.span_is.few c qs (record { each = λ q in_qs. only_property c q (among.each q in_qs); once = among.once });
            many = older_many span.most h.span_is.many;
          };
          rank_now = elim h.rank_now [ inl met ↦ inl (older_met (λ x. x.rank ≡ span.rank) met) | inr great ↦ inr great ];
          step_now = elim h.step_now [ inl met ↦ inl (older_met (λ x. x.step ≡ span.step) met) | inr great ↦ inr great ];
          run = record {
            run = h.run.run;
            are = older_among span.class h.run.run h.run.are;
            counted = h.run.counted;
            complete = λ q has. h.run.complete q (only_property span.class q has);
            latest = λ c q has. h.run.latest c q (only_property c q has);
          };
          low = omega (arith, h.low);
          reached = λ n t behind at_n. h.reached n t (omega (arith, behind)) at_n;
        }

      -- ---- a node of the set
      module _ (of_set : s.set ≡ Some k) where
        new : OfSet standings (end + 1) k end s
        new = record { low = omega arith; is = at; set = of_set }

        met_new : (P : Standing → Type 0) → P s → IsMet standings (end + 1) k P
        met_new P has = record { number = end; standing = s; of = new; has = has }

        -- the lower of a number so far and that of the node
        module _ (f : Standing → ℕ) (before next : ℕ) (is_least : next ≡ min before (f s)) (small : f s ≤ greatest) where
          all_above : ((n : ℕ) (t : Standing) → OfSet standings end k n t → before ≤ f t) → (n : ℕ) (t : Standing) → OfSet standings (end + 1) k n t → next ≤ f t
          all_above old n t of =
              elim (newest n t of) [
                | inl was ↦ let less = old n t was in omega (arith, less, is_least)
                | inr here ↦ let same = ap f here.0 in omega (arith, same, is_least)
              ]

          now_met : (IsMet standings end k (λ t. f t ≡ before) ⊎ (greatest ≤ before)) → IsMet standings (end + 1) k (λ t. f t ≡ next)
          now_met old =
              elim (cases_lt before (f s)) [
                | inr high ↦ met_new (λ t. f t ≡ next) (omega (arith, is_least, high))
                | inl low ↦
                    elim old [
                      | inl met ↦ let equal : f met.standing ≡ before = met.has in record { number = met.number; standing = met.standing; of = older met.number met.standing met.of; has = omega (arith, equal, is_least, low) }
                      | inr great ↦ absurd (omega (arith, great, low, small))
                    ]
              ]

        module _ (order : AreInOrder standings) (span next : Span) (is : IsNext span s next) (h : IsTally end span) where
          -- what is left to show of properties
          record Counted : Type 0 where
            pub some : 0 < next.most
            pub few : (c : ℕ) (qs : List ℕ) → AreAmong standings (end + 1) k c qs → length qs ≤ next.most
            pub many : (next.most ≡ 1) ⊎ ((c : ℕ) × (qs : List ℕ) × AreAmong standings (end + 1) k c qs × (length qs ≡ next.most))
            pub run : IsRun (end + 1) next.class next.count
            pub low : next.count ≤ end + 1
            pub reached : (n : ℕ) (t : Standing) → end + 1 ≤ n → slice_get standings n ≡ Some t → next.class ≤ t.node.class

          -- ---- no property
          module _ (none : ¬ IsProperty s.node) where
            only_before : (c q : ℕ) → HasProperty standings (end + 1) k c q → HasProperty standings end k c q
            only_before c q has =
                elim (newest has.number has.standing has.of) [
                  | inl old ↦ record { number = has.number; standing = has.standing; of = old; is = has.is }
                  | inr same ↦ absurd (none (record { number = q; is = ap (λ (x : Node). x.member) (sym (ap (λ (t : Standing). t.node) same.0) ∙ has.is) }))
                ]

            counted_other : Counted
            counted_other =
                let same = is.other none in
                record {
                  some = let before = h.span_is.some in omega (arith, same.2, before);
                  few = λ c qs among.
                      let before = h.span_is.few c qs (record { each = λ q in_qs. only_before c q (among.each q in_qs); once = among.once }) in
                      omega (arith, before, same.2);
                  many = subst (λ (m : ℕ). (m ≡ 1) ⊎ ((c : ℕ) × (qs : List ℕ) × AreAmong standings (end + 1) k c qs × (length qs ≡ m))) (sym same.2) (older_many span.most h.span_is.many);
                  run = record {
                    run = h.run.run;
                    are = subst (λ (c : ℕ). AreAmong standings (end + 1) k c h.run.run) (sym same.0) (older_among span.class h.run.run h.run.are);
                    counted = h.run.counted ∙ sym same.1;
                    complete = λ q has. h.run.complete q (only_before span.class q (subst (λ (c : ℕ). HasProperty standings (end + 1) k c q) same.0 has));
                    latest = λ c q has. let before = h.run.latest c q (only_before c q has) in omega (arith, before, same.0);
                  };
                  low = omega (arith, h.low, same.1);
                  reached = λ n t behind at_n. let before = h.reached n t (omega (arith, behind)) at_n in omega (arith, before, same.0);
                }

          -- ---- a property
          module _ (property : IsProperty s.node) where
            more : IsCounted span.class span.count span.most s.node.class next
            more = is.property property

            own : s.node ≡ node s.node.class (Property property.number)
            own = ap (λ (m : Member). node s.node.class m) property.is

            has_own : HasProperty standings (end + 1) k s.node.class property.number
            has_own = record { number = end; standing = s; of = new; is = own }

            not_before : HasProperty standings end k s.node.class property.number → ⊥
            not_before has =
                let same = order.once has.number end s.node.class property.number has.standing s has.of.is at has.is own in
                omega (arith, same, has.of.low)

            reached_now : span.class ≤ s.node.class
            reached_now = h.reached end s (omega arith) at

            before_or_own : (c q : ℕ) → HasProperty standings (end + 1) k c q → HasProperty standings end k c q ⊎ ((c ≡ s.node.class) × (q ≡ property.number))
            before_or_own c q has =
                elim (newest has.number has.standing has.of) [
                  | inl old ↦ inl (record { number = has.number; standing = has.standing; of = old; is = has.is })
                  | inr same ↦
                      let nodes : node c (Property q) ≡ node s.node.class (Property property.number) = sym has.is ∙ ap (λ (t : Standing). t.node) same.0 ∙ own in
                      inr (ap (λ (x : Node). x.class) nodes, ap (λ (x : Node). number_of x.member) nodes)
                ]

            -- the run of the class with the node
            run_now : IsRun (end + 1) s.node.class next.count
            run_now =
                elim (cases_eq s.node.class span.class) [
                  | inl same ↦ record {
                    run = property.number ∷ h.run.run;
                    are = record { each = λ q among. each_in same q (place_in property.number h.run.run q among); once = once_in same };
                    counted = let count = more.more same in let before = h.run.counted in omega (arith, count, before);
                    complete = λ q has.
                        elim (before_or_own s.node.class q has) [
                          | inl old ↦ inr (h.run.complete q (subst (λ (c : ℕ). HasProperty standings end k c q) same old))
                          | inr here ↦ inl here.1
                        ];
                    latest = λ c q has. latest_in c q has;
                  }
                  | inr other ↦ record {
                    run = property.number ∷ [];
                    are = record {
                      each = λ q among. elim (place_in property.number [] q among) [ inl here ↦ subst (λ (x : ℕ). HasProperty standings (end + 1) k s.node.class x) (sym here) has_own | inr other ↦ absurd (no_members q other) ];
                      once = once_alone;
                    };
                    counted = sym (more.begins other);
                    complete = λ q has.
                        elim (before_or_own s.node.class q has) [
                          | inl old ↦
                              let late = h.run.latest s.node.class q old in
                              let now : s.node.class ≡ span.class = omega (arith, late, reached_now) in
                              absurd (other now)
                          | inr here ↦ inl here.1
                        ];
                    latest = λ c q has. latest_in c q has;
                  }
                ]
              where
                latest_in : (c q : ℕ) → HasProperty standings (end + 1) k c q → c ≤ s.node.class
                latest_in c q has =
                    elim (before_or_own c q has) [
                      | inl old ↦ let late = h.run.latest c q old in omega (arith, late, reached_now)
                      | inr here ↦ omega (arith, here.0)
                    ]

                old_in : s.node.class ≡ span.class → (q : ℕ) → Contains h.run.run q → HasProperty standings end k s.node.class q
                old_in same q among = subst (λ (c : ℕ). HasProperty standings end k c q) (sym same) (h.run.are.each q among)

                each_in : s.node.class ≡ span.class → (q : ℕ) → (q ≡ property.number) ⊎ Contains h.run.run q → HasProperty standings (end + 1) k s.node.class q
                each_in same q (inl here) = subst (λ (x : ℕ). HasProperty standings (end + 1) k s.node.class x) (sym here) has_own
                each_in same q (inr among) = older_property s.node.class q (old_in same q among)

                once_alone : AreOnce (property.number ∷ [])
                once_alone t = elim t [
                  | inl any ↦ let w = place_of_any (λ (b : ℕ). property.number ≡ b) [] any in none-some w.1.item w.1.is
                  | inr old ↦ old
                ]

                once_in : s.node.class ≡ span.class → AreOnce (property.number ∷ h.run.run)
                once_in same t = elim t [
                  | inl any ↦
                      let w = place_of_any (λ (b : ℕ). property.number ≡ b) h.run.run any in
                      not_before (old_in same property.number (element_at h.run.run w.0 property.number (w.1.is ∙ ap (λ (x : ℕ). Some x) (sym w.1.has))))
                  | inr old ↦ h.run.are.once old
                ]

            counted_property : Counted
            counted_property = record {
              some = let before = h.span_is.some in omega (arith, more.greatest_is, before);
              few = λ c qs among.
                  elim (cases_eq c s.node.class) [
                    | inl same ↦
                        let long = fit qs run_now.run among.once (λ q in_qs. run_now.complete q (subst (λ (x : ℕ). HasProperty standings (end + 1) k x q) same (among.each q in_qs))) in
                        omega (arith, long, run_now.counted, more.greatest_is)
                    | inr other ↦
                        let before = h.span_is.few c qs (record {
                          each = λ q in_qs. elim (before_or_own c q (among.each q in_qs)) [ inl old ↦ old | inr here ↦ absurd (other here.0) ];
                          once = among.once;
                        }) in
                        omega (arith, before, more.greatest_is)
                  ];
              many = elim (cases_lt span.most next.count) [
                | inl grown ↦ let count = run_now.counted in inr (s.node.class, run_now.run, run_now.are, omega (arith, count, grown, more.greatest_is))
                | inr kept ↦
                    let same : span.most ≡ next.most = omega (arith, kept, more.greatest_is) in
                    subst (λ (m : ℕ). (m ≡ 1) ⊎ ((c : ℕ) × (qs : List ℕ) × AreAmong standings (end + 1) k c qs × (length qs ≡ m))) same (older_many span.most h.span_is.many)
              ];
              run = subst (λ (c : ℕ). IsRun (end + 1) c next.count) (sym more.class_is) run_now;
              low = elim (cases_eq s.node.class span.class) [
                | inl same ↦ let count = more.more same in omega (arith, count, h.low)
                | inr other ↦ let count = more.begins other in omega (arith, count)
              ];
              reached = λ n t behind at_n. let rise = order.rises end n s t at at_n (omega (arith, behind)) in omega (arith, rise, more.class_is);
            }

          counted : Counted
          counted = elim (is_property_or s.node) [ inl property ↦ counted_property property | inr none ↦ counted_other none ]

          pub tally_more : IsTally (end + 1) next
          tally_more =
              let rank = now_met (λ (t : Standing). t.rank) span.rank next.rank is.rank is.rank_small h.rank_now in
              let step = now_met (λ (t : Standing). t.step) span.step next.step is.step is.step_small h.step_now in
              record {
                span_is = record {
                  rank = all_above (λ (t : Standing). t.rank) span.rank next.rank is.rank is.rank_small h.span_is.rank;
                  rank_met = λ n t of. rank;
                  step = all_above (λ (t : Standing). t.step) span.step next.step is.step is.step_small h.span_is.step;
                  step_met = λ n t of. step;
                  some = counted.some;
                  few = counted.few;
                  many = counted.many;
                };
                rank_now = inl rank;
                step_now = inl step;
                run = counted.run;
                low = counted.low;
                reached = counted.reached;
              }

-- ---- all sets
pub record AreTallies (sets : List SettlingSet) (standings : List Standing) (end : ℕ) (spans : List Span) : Type 0 where
  pub inside : end ≤ length standings
  pub count : length spans ≡ length sets
  pub rounds : (k : ℕ) (set : SettlingSet) (span : Span) → slice_get sets k ≡ Some set → slice_get spans k ≡ Some span → span.round ≡ set.round
  pub each : (k : ℕ) (span : Span) → slice_get spans k ≡ Some span → IsTally standings k end span

of_set_or : (found : Option ℕ) (k : ℕ) → (found ≡ Some k) ⊎ (¬ (found ≡ Some k))
of_set_or None k = inr (λ e. none-some k e)
of_set_or (Some j) k = elim (cases_eq j k) [ inl same ↦ inl (ap (λ (n : ℕ). Some n) same) | inr other ↦ inr (λ e. other (same_Some j k e)) ]

module _ (sets : List SettlingSet) (standings : List Standing) where
  pub tallies_begun : (spans : List Span) → AreBegun sets spans → AreTallies sets standings 0 spans
  tallies_begun spans zip = record {
    inside = omega arith;
    count = zip_count (λ (set : SettlingSet) (span : Span). IsBegun set.round span) sets spans zip;
    rounds = λ k set span at_set at.
        let pair = zip_left (λ (x : SettlingSet) (y : Span). IsBegun x.round y) sets spans zip k set at_set in
        subst (λ (y : Span). y.round ≡ set.round) (same_Some pair.0 span (sym pair.1 ∙ at)) (pair.2).round_is;
    each = λ k span at.
        let pair = zip_right (λ (x : SettlingSet) (y : Span). IsBegun x.round y) sets spans zip k span at in
        tally_begun standings k (pair.0).round span pair.2;
  }

  pub tallies_more : AreInOrder standings → (end : ℕ) (s : Standing) → slice_get standings end ≡ Some s → (before after : List Span) → AreTallies sets standings end before → AddsNode s before after → AreTallies sets standings (end + 1) after
  tallies_more order end s at before after h adds = record {
    inside = let low = slice_get_within standings end s at in omega (arith, low);
    count = adds.count ∙ h.count;
    rounds = λ k set next at_set at_next. round_more k set next at_set (adds.each k next at_next);
    each = λ k next at_next. tally_at k next (adds.each k next at_next);
  }
    where
      Added : ℕ → Span → Type 0
      Added k next = (span : Span) × (slice_get before k ≡ Some span) × (s.set ≡ Some k → IsNext span s next) × ((¬ (s.set ≡ Some k)) → next ≡ span)

      round_more : (k : ℕ) (set : SettlingSet) (next : Span) → slice_get sets k ≡ Some set → Added k next → next.round ≡ set.round
      round_more k set next at_set w =
          let old : (w.0).round ≡ set.round = h.rounds k set w.0 at_set w.1 in
          elim (of_set_or s.set k) [
            | inl here ↦ (w.2 here).round ∙ old
            | inr apart ↦ ap (λ (x : Span). x.round) (w.3 apart) ∙ old
          ]

      tally_at : (k : ℕ) (next : Span) → Added k next → IsTally standings k (end + 1) next
      tally_at k next w =
          elim (of_set_or s.set k) [
            | inl here ↦ tally_more standings k end s at here order w.0 next (w.2 here) (h.each k w.0 w.1)
            | inr apart ↦ subst (λ (x : Span). IsTally standings k (end + 1) x) (sym (w.3 apart)) (tally_kept standings k end s at apart w.0 (h.each k w.0 w.1))
          ]

  pub counts_low : (end : ℕ) (spans : List Span) → AreTallies sets standings end spans → (k : ℕ) (span : Span) → slice_get spans k ≡ Some span → span.count ≤ end
  counts_low end spans h k span at = (h.each k span at).low

  pub tallies_all : (end : ℕ) (spans : List Span) → length standings ≤ end → AreTallies sets standings end spans → AreSpans sets standings spans
  tallies_all end spans past h = record {
    count = h.count;
    rounds = h.rounds;
    each = λ k span at.
        let all : end ≡ length standings = omega (arith, past, h.inside) in
        subst (λ (n : ℕ). IsSpan standings n k span) all (h.each k span at).span_is;
  }
