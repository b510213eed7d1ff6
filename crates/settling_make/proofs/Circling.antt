-- Edges inside components are parts of circles, and no others are.
use Rattle.std.{proofs.Common.{◌≡◌, ℕ, ◌+◌, ◌<◌, ◌≤◌, inl, inr, List, [], ◌∷◌, ◌++◌, length, take, slice_get, get_or, Some, sym, ap, ◌∙◌, subst, arith}, specs.List.{Contains}, proofs.lemmas.List.{take_more, take_all}, proofs.lemmas.List.Elements.{Contains-push_cases}, proofs.lemmas.Bool.{cases_eq}, proofs.lemmas.Option.{same_Some, slice_get_within, slice_get-get_or}}
use Rattle.meta_model.specs.Loaded.{Loaded}
use Rattle.effect_scan.specs.{declared.node.Node.{Node}, Nodes.{nodes_of, IsAt}, Rows.{row, Edge}, Edges.{MayLead}, Laws.{EdgesJoinNodes}, Scans.{Scanned, IsScan}}
use Rattle.rank_graph.{specs.Walks.{LeadsBy}, proofs.Driving.{edge_inside}}
use Rattle.rank_check.proofs.Conditions.{edges_inside}
use Rattle.rank_make.proofs.Placed.{one_number}
use Rattle.settling_make.specs.{declared.components.Components.{Components}, Components.{number_of, AreComponents}, Circles.{LeadsRound, EdgesSettle}, Inside.{EdgeHandsOn, EdgesHandOn, HandOnBefore}}

module _ (p : Loaded) (scan : Scanned) (is : IsScan p scan) where
  pub one_at : (x y : Node) (n : ℕ) → IsAt (nodes_of p) x n → IsAt (nodes_of p) y n → x ≡ y
  one_at x y n h g = same_Some x y (sym h ∙ g)

  -- an edge by numbers is one from this node
  pub edge_from : (a b : ℕ) (x : Node) → Edge scan.rows a b → IsAt (nodes_of p) x a → (y : Node) × IsAt (nodes_of p) y b × MayLead p x y
  edge_from a b x edge at =
      let leads = (is.edges.edges a b).0 edge in
      (leads.to, leads.is_to, subst (λ (n : Node). MayLead p n leads.to) (one_at leads.from x a leads.is_from at) leads.leads)

  pub edge_between : (a b : ℕ) (x y : Node) → Edge scan.rows a b → IsAt (nodes_of p) x a → IsAt (nodes_of p) y b → MayLead p x y
  edge_between a b x y edge at_x at_y =
      let to = edge_from a b x edge at_x in
      subst (λ (n : Node). MayLead p x n) (one_at to.0 y b to.1 at_y) to.2

  -- a walk by numbers is one between nodes
  pub walk_between : (a : ℕ) (ws : List ℕ) (b : ℕ) (x y : Node) → LeadsBy (Edge scan.rows) a ws b → IsAt (nodes_of p) x a → IsAt (nodes_of p) y b → (zs : List Node) × LeadsBy (MayLead p) x zs y
  walk_between a [] b x y leads at_x at_y =
      let same : a ≡ b = leads in
      ([], one_at x y b (subst (λ (n : ℕ). IsAt (nodes_of p) x n) same at_x) at_y)
  walk_between a (w ∷ ws) b x y leads at_x at_y =
      let to = edge_from a w x leads.0 at_x in
      let rest = walk_between w ws b to.0 y leads.1 to.1 at_y in
      (to.0 ∷ rest.0, (to.2, rest.1))

  module _ (found : Components) (are : AreComponents scan.rows found) where
    -- an edge between two nodes of one component is a part of a circle
    pub goes_round : (a b : ℕ) (x y : Node) → Edge scan.rows a b → number_of found.numbers a ≡ number_of found.numbers b → IsAt (nodes_of p) x a → IsAt (nodes_of p) y b → LeadsRound p x y
    goes_round a b x y edge same at_x at_y =
        let low = edge_inside scan.rows a b edge in
        let high = edges_inside p scan is (length scan.rows) is.edges.count a b edge in
        let back = are.together b a high low (sym same) in
        let walk = walk_between b back.along a y x back.leads at_y at_x in
        record { leads = edge_between a b x y edge at_x at_y; along = walk.0; back = walk.1 }

    -- along walks the number doesn't rise
    pub number_falls : (a : ℕ) (ws : List ℕ) (b : ℕ) → LeadsBy (Edge scan.rows) a ws b → number_of found.numbers b ≤ number_of found.numbers a
    number_falls a [] b leads = let same = ap (number_of found.numbers) leads in omega arith
    number_falls a (w ∷ ws) b leads = let rest = number_falls w ws b leads.1 in let first = are.falls a w leads.0 in omega arith

    -- a circle lies in one component
    module _ (join : EdgesJoinNodes p) where
      edge_of : (x y : Node) (n m : ℕ) → IsAt (nodes_of p) x n → IsAt (nodes_of p) y m → MayLead p x y → Edge scan.rows n m
      edge_of x y n m at_x at_y leads = (is.edges.edges n m).1 (record { from = x; to = y; is_from = at_x; is_to = at_y; leads = leads })

      pub walk_numbers : (x : Node) (zs : List Node) (y : Node) (a b : ℕ) → LeadsBy (MayLead p) x zs y → IsAt (nodes_of p) x a → IsAt (nodes_of p) y b → ((n m : ℕ) → IsAt (nodes_of p) y n → IsAt (nodes_of p) y m → n ≡ m) → (ws : List ℕ) × LeadsBy (Edge scan.rows) a ws b
      walk_numbers x [] y a b leads at_x at_y once =
          let same : x ≡ y = leads in
          ([], once a b (subst (λ (n : Node). IsAt (nodes_of p) n a) same at_x) at_y)
      walk_numbers x (z ∷ zs) y a b leads at_x at_y once =
          let node = (join x z leads.0).1 in
          let rest = walk_numbers z zs y node.0 b leads.1 node.1 at_y once in
          (node.0 ∷ rest.0, (edge_of x z a node.0 at_x node.1 leads.0, rest.1))

      pub round_inside : (x y : Node) (a b : ℕ) → LeadsRound p x y → IsAt (nodes_of p) x a → IsAt (nodes_of p) y b → ((n m : ℕ) → IsAt (nodes_of p) x n → IsAt (nodes_of p) x m → n ≡ m) → Edge scan.rows a b × (number_of found.numbers a ≡ number_of found.numbers b)
      round_inside x y a b round at_x at_y once =
          let edge = edge_of x y a b at_x at_y round.leads in
          let back = walk_numbers y round.along x b a round.back at_y at_x once in
          let up = number_falls b back.0 a back.1 in
          let down = are.falls a b edge in
          (edge, omega arith)

      pub edges_settle : (end : ℕ) → length (nodes_of p) ≤ end → HandOnBefore p scan.rows found.numbers end → EdgesSettle p
      edges_settle end past all x y round =
          let from = (join x y round.leads).0 in
          let to = (join x y round.leads).1 in
          let inside = round_inside x y from.0 to.0 round from.1 to.1 (one_number p x) in
          let low = slice_get_within (nodes_of p) from.0 x from.1 in
          all from.0 x (omega arith) from.1 to.0 inside.0 y to.1 inside.1

-- ---- one node after another, and one edge
pub node_here : (items nodes : List Node) (k : ℕ) (d : Node) → items ≡ nodes → k < length items → IsAt nodes (get_or items k d) k
node_here items nodes k d same inside = subst (λ (ns : List Node). slice_get ns k ≡ Some (get_or items k d)) same (slice_get-get_or items k d inside)

module _ (p : Loaded) (rows : List (List ℕ)) (numbers : List ℕ) where
  pub hand_none : HandOnBefore p rows numbers 0
  hand_none a x low at = absurd (omega arith)

  pub hand_more : (end : ℕ) (x : Node) → IsAt (nodes_of p) x end → HandOnBefore p rows numbers end → EdgesHandOn p rows numbers end x → HandOnBefore p rows numbers (end + 1)
  hand_more end x here before now a z low at =
      elim (cases_eq a end) [
        | inl e ↦
            let there : IsAt (nodes_of p) z end = subst (λ (k : ℕ). IsAt (nodes_of p) z k) e at in
            let same : x ≡ z = same_Some x z (sym here ∙ there) in
            subst (λ (k : ℕ). EdgesHandOn p rows numbers k z) (sym e) (subst (λ (n : Node). EdgesHandOn p rows numbers end n) same now)
        | inr ne ↦ before a z (omega arith) at
      ]

  -- along the first of these edges
  abbrev pub HandsOnTo : ℕ → Node → List ℕ → ℕ → Type 0
  HandsOnTo a x targets end = (b : ℕ) → Contains (take end targets) b → EdgeHandsOn p numbers a x b

  pub to_more : (a : ℕ) (x : Node) (targets : List ℕ) (end t : ℕ) → end < length targets → get_or targets end 0 ≡ t → HandsOnTo a x targets end → EdgeHandsOn p numbers a x t → HandsOnTo a x targets (end + 1)
  to_more a x targets end t more is before now b held =
      let longer : take (end + 1) targets ≡ take end targets ++ t ∷ [] = take_more targets end 0 more ∙ ap (λ (n : ℕ). take end targets ++ n ∷ []) is in
      elim (Contains-push_cases (take end targets) t b (subst (λ (l : List ℕ). Contains l b) longer held)) [
        | inl old ↦ before b old
        | inr same ↦ subst (λ (n : ℕ). EdgeHandsOn p numbers a x n) same now
      ]

  pub to_all : (a : ℕ) (x : Node) (targets : List ℕ) (end : ℕ) → targets ≡ row rows a → length targets ≤ end → HandsOnTo a x targets end → EdgesHandOn p rows numbers a x
  to_all a x targets end same past all b edge =
      let whole : take end targets ≡ row rows a = take_all end targets past ∙ same in
      all b (subst (λ (l : List ℕ). Contains l b) (sym whole) edge)
