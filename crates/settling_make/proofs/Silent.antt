-- Edges along circles that lead to no property, and chains of them.
use Rattle.std.{proofs.Common.{◌≡◌, ℕ, suc, ◌+◌, ◌<◌, ◌≤◌, inl, inr, List, [], ◌∷◌, ◌++◌, length, take, replicate, get_or, Some, refl, sym, ap, ◌∙◌, subst, arith}, specs.List.{Contains}, proofs.lemmas.Bool.{cases_eq, cases_lt}, proofs.lemmas.List.{take_more, take_all, length_push, length-replicate, get_or-replicate, get_or_append_left, get_or_push, get_or_past}, proofs.lemmas.List.Elements.{Contains-push, Contains-push_cases, Contains-append_left, Contains-append_right}, proofs.lemmas.Option.{slice_get_within, slice_get-get_or, get_or_from_slice_get}}
use Rattle.meta_model.specs.Loaded.{Loaded}
use Rattle.effect_scan.specs.{declared.node.Node.{Node}, Nodes.{nodes_of, IsAt}, Rows.{row, Edge}, Edges.{MayLead}, Laws.{EdgesJoinNodes}, Scans.{Scanned, IsScan}}
use Rattle.rank_graph.{specs.Graphs.{InRange, IsToldCycle}, specs.Solutions.{AreRanks}, specs.Walks.{LeadsBy}, proofs.Distinct.{cons_cases}, proofs.Driving.{edge_inside}}
use Rattle.rank_check.proofs.Conditions.{edges_inside}
use Rattle.rank_make.proofs.Placed.{one_number}
use Rattle.settling.specs.Settles.{IsProperty}
use Rattle.settling_make.{specs.declared.circles.Circle.TheVariants.{NoProperty}, specs.declared.components.Components.{Components}, specs.Circles.{IsSilentEdge, AreHeights, DoesNotSettle}, specs.Components.{AreComponents}, specs.Inside.{IsSilentEnd, AreSilentEnds, AreSilent, AreThemselves}, proofs.Circling.{one_at, edge_from, goes_round, round_inside}}

-- ---- rows
-- the first of the targets were looked at
pub record EndsTo (nodes : List Node) (rows : List (List ℕ)) (numbers : List ℕ) (a : ℕ) (targets : List ℕ) (end : ℕ) (ends : List ℕ) : Type 0 where
  pub edges : (b : ℕ) → Contains ends b → Contains targets b × IsSilentEnd nodes numbers a b
  pub each : (b : ℕ) → Contains (take end targets) b → IsSilentEnd nodes numbers a b → Contains ends b

pub ends_none : (nodes : List Node) (rows : List (List ℕ)) (numbers : List ℕ) (a : ℕ) (targets none : List ℕ) → none ≡ [] → EndsTo nodes rows numbers a targets 0 none
ends_none nodes rows numbers a targets none empty = record {
  edges = λ b h. let bad : Contains [] b = subst (λ (l : List ℕ). Contains l b) empty h in absurd (omega (arith, bad.1));
  each = λ b h is. absurd (omega (arith, h.1));
}

module _ (nodes : List Node) (rows : List (List ℕ)) (numbers : List ℕ) (a : ℕ) (targets : List ℕ) (end t : ℕ) (more : end < length targets) (is : get_or targets end 0 ≡ t) where
  longer : take (end + 1) targets ≡ take end targets ++ t ∷ []
  longer = take_more targets end 0 more ∙ ap (λ (n : ℕ). take end targets ++ n ∷ []) is

  target : Contains targets t
  target = (end, more, get_or_from targets end t more is)
    where
      get_or_from : (xs : List ℕ) (k x : ℕ) → k < length xs → get_or xs k 0 ≡ x → get_or xs k x ≡ x
      get_or_from xs k x low there = get_or_from_slice_get xs k x x (slice_get-get_or xs k 0 low ∙ ap (λ (n : ℕ). Some n) there)

  pub ends_yes : (ends after : List ℕ) → after ≡ ends ++ t ∷ [] → IsSilentEnd nodes numbers a t → EndsTo nodes rows numbers a targets end ends → EndsTo nodes rows numbers a targets (end + 1) after
  ends_yes ends after pushed silent to = record {
    edges = λ b h.
        elim (Contains-push_cases ends t b (subst (λ (l : List ℕ). Contains l b) pushed h)) [
          | inl old ↦ to.edges b old
          | inr same ↦ (subst (λ (x : ℕ). Contains targets x) same target, subst (λ (x : ℕ). IsSilentEnd nodes numbers a x) same silent)
        ];
    each = λ b h quiet.
        subst (λ (l : List ℕ). Contains l b) (sym pushed)
        (elim (Contains-push_cases (take end targets) t b (subst (λ (l : List ℕ). Contains l b) longer h)) [
          | inl old ↦ Contains-append_left ends (t ∷ []) b (to.each b old quiet)
          | inr same ↦ subst (λ (x : ℕ). Contains (ends ++ t ∷ []) x) same (Contains-push ends t)
        ]);
  }

  pub ends_no : (ends : List ℕ) → ¬ IsSilentEnd nodes numbers a t → EndsTo nodes rows numbers a targets end ends → EndsTo nodes rows numbers a targets (end + 1) ends
  ends_no ends loud to = record {
    edges = to.edges;
    each = λ b h quiet.
        elim (Contains-push_cases (take end targets) t b (subst (λ (l : List ℕ). Contains l b) longer h)) [
          | inl old ↦ to.each b old quiet
          | inr same ↦ absurd (loud (subst (λ (x : ℕ). IsSilentEnd nodes numbers a x) (sym same) quiet))
        ];
  }

pub ends_all : (nodes : List Node) (rows : List (List ℕ)) (numbers : List ℕ) (a : ℕ) (targets : List ℕ) (end : ℕ) (ends : List ℕ) → targets ≡ row rows a → length targets ≤ end → EndsTo nodes rows numbers a targets end ends → AreSilentEnds nodes rows numbers a ends
ends_all nodes rows numbers a targets end ends same past to =
    let whole : take end targets ≡ row rows a = take_all end targets past ∙ same in
    record {
      edges = λ b h. let x = to.edges b h in (subst (λ (l : List ℕ). Contains l b) same x.0, x.1);
      each = λ b edge quiet. to.each b (subst (λ (l : List ℕ). Contains l b) (sym whole) edge) quiet;
    }

-- the rows of the first nodes
pub record RowsTo (nodes : List Node) (rows : List (List ℕ)) (numbers : List ℕ) (end : ℕ) (silent : List (List ℕ)) : Type 0 where
  pub count : length silent ≡ end
  pub ends : (a : ℕ) → a < end → AreSilentEnds nodes rows numbers a (row silent a)

pub rows_none : (nodes : List Node) (rows : List (List ℕ)) (numbers : List ℕ) (none : List (List ℕ)) → none ≡ [] → RowsTo nodes rows numbers 0 none
rows_none nodes rows numbers none empty = record { count = ap (λ (l : List (List ℕ)). length l) empty; ends = λ a low. absurd (omega arith) }

pub rows_more : (nodes : List Node) (rows : List (List ℕ)) (numbers : List ℕ) (end : ℕ) (silent after : List (List ℕ)) (ends : List ℕ) → after ≡ silent ++ ends ∷ [] → AreSilentEnds nodes rows numbers end ends → RowsTo nodes rows numbers end silent → RowsTo nodes rows numbers (end + 1) after
unfolding row
rows_more nodes rows numbers end silent after ends pushed now to = record {
  count = let sum = length_push silent ends in let count = ap (λ (l : List (List ℕ)). length l) pushed in let before = to.count in omega arith;
  ends = λ a low.
      elim (cases_eq a end) [
        | inl same ↦
            let here : get_or after a [] ≡ ends = ap (λ (l : List (List ℕ)). get_or l a []) pushed ∙ get_or_push silent ends [] a (to.count ∙ sym same) in
            subst (λ (r : List ℕ). AreSilentEnds nodes rows numbers a r) (sym here) (subst (λ (n : ℕ). AreSilentEnds nodes rows numbers n ends) (sym same) now)
        | inr ne ↦
            let inside : a < length silent = let before = to.count in omega arith in
            let here : get_or after a [] ≡ get_or silent a [] = ap (λ (l : List (List ℕ)). get_or l a []) pushed ∙ get_or_append_left silent (ends ∷ []) [] a inside in
            subst (λ (r : List ℕ). AreSilentEnds nodes rows numbers a r) (sym here) (to.ends a (omega arith))
      ];
}

pub rows_all : (nodes : List Node) (rows given : List (List ℕ)) (numbers : List ℕ) (end : ℕ) (silent : List (List ℕ)) → given ≡ rows → end ≡ length given → RowsTo nodes rows numbers end silent → AreSilent nodes rows numbers silent
rows_all nodes rows given numbers end silent same is to =
    let count : end ≡ length rows = is ∙ ap (λ (l : List (List ℕ)). length l) same in
    record { count = to.count ∙ count; ends = λ a low. to.ends a (omega arith) }

-- ---- what a search asks
pub themselves_none : (none : List ℕ) → none ≡ [] → AreThemselves 0 none
themselves_none none empty = record {
  counted = ap (λ (l : List ℕ). length l) empty;
  each = λ a b at. let low = slice_get_within none a b at in let count = ap (λ (l : List ℕ). length l) empty in absurd (omega arith);
}

pub themselves_more : (end : ℕ) (numbers after : List ℕ) → after ≡ numbers ++ end ∷ [] → AreThemselves end numbers → AreThemselves (end + 1) after
themselves_more end numbers after pushed to = record {
  counted = let sum = length_push numbers end in let count = ap (λ (l : List ℕ). length l) pushed in let before = to.counted in omega arith;
  each = λ a b at.
      let low = slice_get_within after a b at in
      let sum = length_push numbers end in
      let count = ap (λ (l : List ℕ). length l) pushed in
      let before = to.counted in
      let value : get_or after a 0 ≡ b = get_or_from_slice_get after a b 0 at in
      elim (cases_eq a end) [
        | inl same ↦ sym value ∙ ap (λ (l : List ℕ). get_or l a 0) pushed ∙ get_or_push numbers end 0 a (to.counted ∙ sym same) ∙ sym same
        | inr ne ↦
            let inside : a < length numbers = omega arith in
            let old : get_or numbers a 0 ≡ b = sym (get_or_append_left numbers (end ∷ []) 0 a inside) ∙ sym (ap (λ (l : List ℕ). get_or l a 0) pushed) ∙ value in
            to.each a b (slice_get-get_or numbers a 0 inside ∙ ap (λ (n : ℕ). Some n) old)
      ];
}

pub no_classes : (count : ℕ) (own : List (List ℕ)) → own ≡ replicate count [] → (a c : ℕ) → Edge own a c → c < 0
unfolding row
no_classes count own is a c edge =
    let none : get_or (replicate count []) a [] ≡ [] =
    elim (cases_lt a count) [
      | inl l ↦ get_or-replicate count a [] [] l
      | inr m ↦ get_or_past (replicate count []) a [] (let long = length-replicate {A = List ℕ} count [] in omega arith)
    ] in
    let bad : Contains [] c = subst (λ (r : List ℕ). Contains r c) (ap (λ (l : List (List ℕ)). get_or l a []) is ∙ none) edge in
    absurd (omega (arith, bad.1))

-- ---- chains
module _ (p : Loaded) (scan : Scanned) (is : IsScan p scan) (found : Components) (are : AreComponents scan.rows found) (silent : List (List ℕ)) (rows : AreSilent scan.nodes scan.rows found.numbers silent) where
  -- an edge of these rows is one between nodes
  silent_from : (a b : ℕ) (x : Node) → Edge silent a b → IsAt (nodes_of p) x a → (y : Node) × IsAt (nodes_of p) y b × IsSilentEdge p x y
  silent_from a b x edge at =
      let inside = edge_inside silent a b edge in
      let low : a < length scan.rows = let count = rows.count in omega arith in
      let end = (rows.ends a low).edges b edge in
      let to = edge_from p scan is a b x end.0 at in
      let there : IsAt scan.nodes to.0 b = subst (λ (ns : List Node). IsAt ns to.0 b) (sym is.nodes) to.1 in
      (to.0, to.1, record { round = goes_round p scan is found are a b x to.0 end.0 end.1.inside at to.1; silent = end.1.silent to.0 there })

  silent_walk : (a : ℕ) (ws : List ℕ) (b : ℕ) (x : Node) → LeadsBy (Edge silent) a ws b → IsAt (nodes_of p) x a → (zs : List Node) × (y : Node) × IsAt (nodes_of p) y b × LeadsBy (IsSilentEdge p) x zs y × (length zs ≡ length ws)
  silent_walk a [] b x leads at = let same : a ≡ b = leads in ([], x, subst (λ (n : ℕ). IsAt (nodes_of p) x n) same at, refl, refl)
  silent_walk a (w ∷ ws) b x leads at =
      let to = silent_from a w x leads.0 at in
      let rest = silent_walk w ws b to.0 leads.1 to.1 in
      (to.0 ∷ rest.0, rest.1, rest.2, (to.2, rest.3), ap (λ (n : ℕ). suc n) rest.4)

  pub silent_range : InRange silent
  silent_range a b edge =
      let inside = edge_inside silent a b edge in
      let low : a < length scan.rows = let count = rows.count in omega arith in
      let end = (rows.ends a low).edges b edge in
      let high = edges_inside p scan is (length scan.rows) is.edges.count a b end.0 in
      let count = rows.count in
      omega arith

  module _ (join : EdgesJoinNodes p) where
    silent_edge : (x y : Node) (a b : ℕ) → IsSilentEdge p x y → IsAt (nodes_of p) x a → IsAt (nodes_of p) y b → Edge silent a b
    silent_edge x y a b edge at_x at_y =
        let inside = round_inside p scan is found are join x y a b edge.round at_x at_y (one_number p x) in
        let low = edge_inside scan.rows a b inside.0 in
        (rows.ends a low).each b inside.0 (record {
          inside = inside.1;
          silent = λ z at.
              let there : IsAt (nodes_of p) z b = subst (λ (ns : List Node). IsAt ns z b) is.nodes at in
              let same : y ≡ z = one_at p scan is y z b at_y there in
              subst (λ (n : Node). ¬ IsProperty n) same edge.silent;
        })

    silent_numbers : (x : Node) (zs : List Node) (y : Node) (a : ℕ) → LeadsBy (IsSilentEdge p) x zs y → IsAt (nodes_of p) x a → (ws : List ℕ) × (b : ℕ) × LeadsBy (Edge silent) a ws b × (length ws ≡ length zs)
    silent_numbers x [] y a leads at = ([], a, refl, refl)
    silent_numbers x (z ∷ zs) y a leads at =
        let node = (join x z leads.0.round.leads).1 in
        let rest = silent_numbers z zs y node.0 leads.1 node.1 in
        (node.0 ∷ rest.0, rest.1, (silent_edge x z a node.0 leads.0 at node.1, rest.2), ap (λ (n : ℕ). suc n) rest.3)

    pub are_heights : (rank : ℕ → ℕ) → AreRanks silent rank → AreHeights p rank
    are_heights rank ranks n x at = record {
      chain =
          let chain = ranks.chains n in
          let walk = silent_walk n chain.0 chain.1 x chain.2 at in
          (walk.0, walk.1, walk.3, walk.4 ∙ chain.3);
      longest = λ along to leads.
          let walk = silent_numbers x along to n leads at in
          let long = ranks.longest n walk.0 walk.1 walk.2 in
          let same = walk.3 in
          omega arith;
    }

  -- ---- a circle
  leads_of : (x : Node) (zs : List Node) (y : Node) → LeadsBy (IsSilentEdge p) x zs y → LeadsBy (MayLead p) x zs y
  leads_of x [] y leads = leads
  leads_of x (z ∷ zs) y leads = (leads.0.round.leads, leads_of z zs y leads.1)

  quiet_of : (x : Node) (zs : List Node) (y : Node) → LeadsBy (IsSilentEdge p) x zs y → (z : Node) → Contains zs z → ¬ IsProperty z
  quiet_of x [] y leads z held = absurd (omega (arith, held.1))
  quiet_of x (w ∷ zs) y leads z held =
      elim (cons_cases w zs z held) [
        | inl same ↦ subst (λ (n : Node). ¬ IsProperty n) same leads.0.silent
        | inr later ↦ quiet_of w zs y leads.1 z later
      ]

  ends_at : (x : Node) (w : Node) (zs : List Node) (y : Node) → LeadsBy (IsSilentEdge p) x (w ∷ zs) y → Contains (w ∷ zs) y
  ends_at x w [] y leads = let same : w ≡ y = leads.1 in subst (λ (n : Node). Contains (w ∷ []) n) same (Contains-push [] w)
  ends_at x w (z ∷ zs) y leads = Contains-append_right (w ∷ []) (z ∷ zs) y (ends_at w z zs y leads.1)

  pub no_property : (numbers given : List ℕ) (first : ℕ) (x : Node) → IsToldCycle silent numbers → given ≡ numbers → first ≡ get_or given 0 0 → IsAt (nodes_of p) x first → DoesNotSettle p (NoProperty x)
  no_property numbers given first x told same read at =
      let walk = told.cycle.comes_back.walk in
      let count = ap (λ (l : List ℕ). length l) walk.nodes_are in
      let more = told.cycle.comes_back.some in
      let begin : first ≡ told.first = read ∙ ap (λ (l : List ℕ). get_or l 0 0) (same ∙ walk.nodes_are) in
      let here : IsAt (nodes_of p) x told.first = subst (λ (n : ℕ). IsAt (nodes_of p) x n) begin at in
      let by = silent_walk told.first walk.after told.first x walk.leads here in
      let back : by.1 ≡ x = one_at p scan is by.1 x told.first by.2 here in
      let leads : LeadsBy (IsSilentEdge p) x by.0 x = subst (λ (n : Node). LeadsBy (IsSilentEdge p) x by.0 n) back by.3 in
      let long : 0 < length by.0 = let as_long = by.4 in omega arith in (
        x ∷ by.0,
        record { walk = record { after = by.0; nodes_are = refl; leads = leads_of x by.0 x leads }; some = omega arith },
        λ z held.
            elim (cons_cases x by.0 z held) [
              | inl e ↦ subst (λ (n : Node). ¬ IsProperty n) e (quiet_of x by.0 x leads x (last by.0 leads long))
              | inr later ↦ quiet_of x by.0 x leads z later
            ],
      )
    where
      last : (zs : List Node) → LeadsBy (IsSilentEdge p) x zs x → 0 < length zs → Contains zs x
      last [] leads long = absurd (omega arith)
      last (z ∷ zs) leads long = ends_at x z zs x leads

  pub first_inside : (numbers given : List ℕ) → IsToldCycle silent numbers → given ≡ numbers → (0 < length given) × (get_or given 0 0 < length scan.nodes)
  first_inside numbers given told same =
      let walk = told.cycle.comes_back.walk in
      let count = ap (λ (l : List ℕ). length l) (same ∙ walk.nodes_are) in
      let whole = ap (λ (l : List ℕ). length l) walk.nodes_are in
      let more = told.cycle.comes_back.some in
      let begin : get_or given 0 0 ≡ told.first = ap (λ (l : List ℕ). get_or l 0 0) (same ∙ walk.nodes_are) in
      let low = starts told.first walk.after told.first walk.leads (omega arith) in
      let rows_count = rows.count in
      let scan_count = is.edges.count in
      let nodes_count = ap (λ (ns : List Node). length ns) is.nodes in
      (omega arith, omega arith)
    where
      starts : (a : ℕ) (ws : List ℕ) (b : ℕ) → LeadsBy (Edge silent) a ws b → 0 < length ws → a < length silent
      starts a [] b leads some = absurd (omega arith)
      starts a (w ∷ ws) b leads some = edge_inside silent a w leads.0
