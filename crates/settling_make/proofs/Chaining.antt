-- What is known before ranks are made, from the sets that are made.
use Rattle.std.{proofs.Common.{◌≡◌, inl, inr, ℕ, suc, ◌<◌, ◌≤◌, List, [], ◌∷◌, length, Option, Some, None, refl, sym, ap, ◌∙◌, subst, arith}, proofs.lemmas.Bool.{cases_eq, cases_lt}, proofs.lemmas.List.{get_or_past}, proofs.lemmas.Option.{get_or_from_slice_get}}
use Rattle.meta_model.specs.Loaded.{Loaded}
use Rattle.effect_scan.specs.{declared.node.Node.{Node}, Nodes.{nodes_of, IsAt}, Rows.{row, Edge}, Laws.{EdgesJoinNodes}, Scans.{Scanned, IsScan}}
use Rattle.rank_graph.{specs.Walks.{LeadsBy}, proofs.Driving.{edge_inside}}
use Rattle.rank_check.{specs.Entries.{place_at}, specs.Valid.{most_bound}, proofs.Conditions.{edges_inside}, proofs.Elements.{some_inside}}
use Rattle.rank_make.{specs.Solved.{AreLow}, proofs.Placed.{one_number}}
use Rattle.settling.specs.Settles.{IsProperty}
use Rattle.settling_make.{specs.declared.components.Components.{Components}, specs.declared.margin.Margin.{Margin}, specs.declared.sets.Sets.{Sets}, specs.Circles.{IsSilentEdge, AreHeights}, specs.Collected.{LeadsOut, AreCollected}, specs.Components.{number_of, AreComponents}, specs.Fits.{no_margin, margin_of, SilentEdge}, specs.Makes.{IsLong}, specs.Margins.{Asks, AreMarginsOf}, specs.Ranking.{AreHeightsInside, AreGiven}, specs.Sets.{HasInside, AreSetsOf}, proofs.Circling.{one_at, edge_from, goes_round, round_inside}}

-- a height that isn't low
pub long_told : (p : Loaded) (height : ℕ → ℕ) → AreHeights p height → (n : ℕ) (x : Node) → IsAt (nodes_of p) x n → most_bound ≤ height n → IsLong p x
long_told p height are n x at high =
    let chain = (are n x at).chain in
    let long = chain.3 in
    (chain.0, chain.1, chain.2, omega (arith, long, high))

module _ (p : Loaded) (join : EdgesJoinNodes p) (scan : Scanned) (is : IsScan p scan) (found : Components) (are : AreComponents scan.rows found) (height : ℕ → ℕ) (heights : AreHeights p height) where
  nodes_count : length scan.nodes ≡ length scan.rows
  nodes_count = ap (λ (ns : List Node). length ns) is.nodes ∙ sym is.edges.count

  -- an edge by numbers is one between nodes
  silent_from : (a b : ℕ) (x : Node) → SilentEdge scan.nodes scan.rows found.numbers a b → IsAt (nodes_of p) x a → (y : Node) × IsAt (nodes_of p) y b × IsSilentEdge p x y
  silent_from a b x edge at =
      let to = edge_from p scan is a b x edge.0 at in
      let there : IsAt scan.nodes to.0 b = subst (λ (ns : List Node). IsAt ns to.0 b) (sym is.nodes) to.1 in
      (to.0, to.1, record { round = goes_round p scan is found are a b x to.0 edge.0 edge.1.inside at to.1; silent = edge.1.silent to.0 there })

  silent_edge : (x y : Node) (a b : ℕ) → IsSilentEdge p x y → IsAt (nodes_of p) x a → IsAt (nodes_of p) y b → SilentEdge scan.nodes scan.rows found.numbers a b
  silent_edge x y a b edge at_x at_y =
      let inside = round_inside p scan is found are join x y a b edge.round at_x at_y (one_number p x) in (
        inside.0,
        record {
          inside = inside.1;
          silent = λ z at.
              let there : IsAt (nodes_of p) z b = subst (λ (ns : List Node). IsAt ns z b) is.nodes at in
              let same : y ≡ z = one_at p scan is y z b at_y there in
              subst (λ (n : Node). ¬ IsProperty n) same edge.silent;
        },
      )

  silent_numbers : (x : Node) (zs : List Node) (y : Node) (a : ℕ) → LeadsBy (IsSilentEdge p) x zs y → IsAt (nodes_of p) x a
      → (ws : List ℕ) × (b : ℕ) × LeadsBy (SilentEdge scan.nodes scan.rows found.numbers) a ws b × (length ws ≡ length zs)
  silent_numbers x [] y a leads at = ([], a, refl, refl)
  silent_numbers x (z ∷ zs) y a leads at =
      let node = (join x z leads.0.round.leads).1 in
      let rest = silent_numbers z zs y node.0 leads.1 node.1 in
      (node.0 ∷ rest.0, rest.1, (silent_edge x z a node.0 leads.0 at node.1, rest.2), ap (λ (n : ℕ). suc n) rest.3)

  node_there : (a : ℕ) → a < length scan.rows → (x : Node) × IsAt (nodes_of p) x a
  node_there a low = some_inside (nodes_of p) a (let count = is.edges.count in omega (arith, low, count))

  pub heights_inside : AreHeightsInside scan.nodes scan.rows found.numbers height
  heights_inside = record {
    falls = λ a b edge.
        let x = node_there a (edge_inside scan.rows a b edge.0) in
        let to = silent_from a b x.0 edge x.1 in
        let chain = (heights b to.0 to.1).chain in
        let long = (heights a x.0 x.1).longest (to.0 ∷ chain.0) chain.1 (to.2, chain.2) in
        let same = chain.3 in
        omega (arith, long, same);
    chain = λ a low.
        let x = node_there a low in
        let chain = (heights a x.0 x.1).chain in
        let walk = silent_numbers x.0 chain.0 chain.1 a chain.2 x.1 in
        (walk.0, walk.1, walk.2, walk.3 ∙ chain.3);
  }

  module _ (low : AreLow (length (nodes_of p)) height) (made : Sets) (sets_are : AreSetsOf p scan.rows found height made) (margins : List Margin) (margins_are : AreMarginsOf p found made margins) where
    set_low : (a : ℕ) → a < length scan.rows → number_of found.numbers a < length found.sets
    set_low a inside = edge_inside found.sets (number_of found.numbers a) a ((are.members a (number_of found.numbers a)).1 (inside, refl))

    -- what a component asks
    pub asked : (k : ℕ) → k < length found.sets → Asks p made.sets (place_at made.places k) (margin_of margins k)
    asked k inside =
        let m = some_inside margins k (let count = margins_are.count in omega (arith, inside, count)) in
        let same : margin_of margins k ≡ m.0 = get_or_from_slice_get margins k m.0 no_margin m.1 in
        subst (λ (margin : Margin). Asks p made.sets (place_at made.places k) margin) (sym same) (margins_are.each k m.0 m.1)

    -- a chain that isn't empty begins inside its component
    height_none : (a : ℕ) → a < length scan.rows → ¬ HasInside scan.rows found.numbers (number_of found.numbers a) (row found.sets (number_of found.numbers a)) → height a ≡ 0
    height_none a inside none =
        let chain = heights_inside.chain a inside in
        sym chain.3 ∙ empty chain.0 chain.1 chain.2
      where
        empty : (ws : List ℕ) (to : ℕ) → LeadsBy (SilentEdge scan.nodes scan.rows found.numbers) a ws to → length ws ≡ 0
        empty [] to leads = refl
        empty (w ∷ ws) to leads =
            absurd (none (record {
              from = a;
              to = w;
              among = (are.members a (number_of found.numbers a)).1 (inside, refl);
              edge = leads.0.0;
              inside = sym leads.0.1.inside;
            }))

    -- the round of a component
    round_by : (k : ℕ) → k < length found.sets → (place : Option ℕ) → place_at made.places k ≡ place → (a : ℕ) → a < length scan.rows → number_of found.numbers a ≡ k → height a < (margin_of margins k).round
    round_by k inside None at a a_low here =
        let asks : margin_of margins k ≡ no_margin = subst (λ (place : Option ℕ). Asks p made.sets place (margin_of margins k)) at (asked k inside) in
        let e = ap (λ (m : Margin). m.round) asks in
        let none = sets_are.none k inside at in
        let flat = height_none a a_low (subst (λ (j : ℕ). ¬ HasInside scan.rows found.numbers j (row found.sets j)) (sym here) none) in
        omega (arith, e, flat)
    round_by k inside (Some i) at a a_low here =
        let set = some_inside made.sets i (sets_are.inside k i at) in
        let asks : Asks p made.sets (Some i) (margin_of margins k) = subst (λ (place : Option ℕ). Asks p made.sets place (margin_of margins k)) at (asked k inside) in
        let own = asks set.0 set.1 in
        let round = (sets_are.is k i set.0 at set.1).round in
        let above = round.above a ((are.members a k).1 (a_low, here)) in
        let e = own.round in
        omega (arith, above, e)

    -- no round is 0 or greater than the greatest bound
    round_fits : (k : ℕ) → k < length found.sets → (place : Option ℕ) → place_at made.places k ≡ place → (0 < (margin_of margins k).round) × ((margin_of margins k).round ≤ most_bound) × ((margin_of margins k).least ≤ 1)
    round_fits k inside None at =
        let asks : margin_of margins k ≡ no_margin = subst (λ (place : Option ℕ). Asks p made.sets place (margin_of margins k)) at (asked k inside) in
        let e = ap (λ (m : Margin). m.round) asks in
        let f = ap (λ (m : Margin). m.least) asks in
        (omega (arith, e), omega (arith, e), omega (arith, f))
    round_fits k inside (Some i) at =
        let set = some_inside made.sets i (sets_are.inside k i at) in
        let asks : Asks p made.sets (Some i) (margin_of margins k) = subst (λ (place : Option ℕ). Asks p made.sets place (margin_of margins k)) at (asked k inside) in
        let own = asks set.0 set.1 in
        let met = (sets_are.is k i set.0 at set.1).round.met in
        let there = (are.members met.0 k).0 met.1 in
        let nodes = is.edges.count in
        let most = low met.0 (let l = there.0 in omega (arith, l, nodes)) in
        let high = met.2 in
        let e = own.round in
        let f = own.least in
        (omega (arith, e, high), omega (arith, e, high, most), omega (arith, f))

    fits : (k : ℕ) → (0 < (margin_of margins k).round) × ((margin_of margins k).round ≤ most_bound) × ((margin_of margins k).least ≤ 1)
    fits k =
        elim (cases_lt k (length found.sets)) [
          | inl inside ↦ round_fits k inside (place_at made.places k) refl
          | inr past ↦
              let same : margin_of margins k ≡ no_margin = get_or_past margins k no_margin (let count = margins_are.count in omega (arith, past, count)) in
              let e = ap (λ (m : Margin). m.round) same in
              let f = ap (λ (m : Margin). m.least) same in
              (omega (arith, e), omega (arith, e), omega (arith, f))
        ]

    pub are_given : AreGiven scan.nodes scan.rows found height margins
    are_given = record {
      inside = λ a b edge. edges_inside p scan is (length scan.rows) is.edges.count a b edge;
      nodes_count = nodes_count;
      found_are = are;
      heights = heights_inside;
      margins_are = record {
        count = margins_are.count;
        rounds = λ a a_low. round_by (number_of found.numbers a) (set_low a a_low) (place_at made.places (number_of found.numbers a)) refl a a_low refl;
        some = λ k. (fits k).0;
        low = λ k. (fits k).1;
        least = λ k. (fits k).2;
      };
    }

-- edges between components lead down
pub outer_down : (scan : Scanned) (found : Components) → AreComponents scan.rows found → (outer : List (List ℕ)) → AreCollected (LeadsOut scan.rows found.numbers) found.sets outer → (k j : ℕ) → Edge outer k j → j < k
outer_down scan found are outer rows k j edge =
    let low = edge_inside outer k j edge in
    let count = rows.count in
    let from = (rows.each k (omega (arith, low, count))).given j edge in
    let out = from.2 in
    let down = are.falls from.0 out.to out.edge in
    let same = ((are.members from.0 k).0 from.1).1 in
    let last = out.is in
    elim (cases_eq j k) [
      | inl e ↦ absurd (out.other e)
      | inr away ↦ omega (arith, down, same, last, away)
    ]
