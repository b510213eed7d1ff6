-- What may be destroyed from the nodes of components.
use Rattle.std.{proofs.Common.{◌≡◌, ℕ, ◌+◌, ◌<◌, ◌≤◌, inl, inr, Bool, true, List, [], ◌∷◌, length, refl, sym, ap, ◌∙◌, subst, arith}, proofs.lemmas.Bool.{cases_eq}, proofs.lemmas.Option.{slice_get_within, same_Some}}
use Rattle.meta_model.specs.Loaded.{Loaded}
use Rattle.effect_scan.specs.{declared.node.Node.{Node}, Nodes.{nodes_of, IsAt}, Rows.{Edge}, Edges.{MayLead}, Laws.{IsNode, EdgesJoinNodes}, Scans.{Scanned, IsScan}}
use Rattle.effect_scan.specs.declared.node.Member.TheVariants as member
use Rattle.rank_graph.{specs.Graphs.{InRange, IsToldCycle}, specs.Solutions.{AreClasses}, specs.Walks.{LeadsBy}, proofs.Driving.{edge_inside}}
use Rattle.rank_check.{specs.Valid.{HasBody}, proofs.Conditions.{edges_inside}, proofs.Listing.{closure_low}}
use Rattle.rank_make.{specs.Solved.{own_rows}, proofs.Numbers.{own_has, own_is}, proofs.Placed.{one_number}}
use Rattle.settling_make.{specs.declared.components.Components.{Components}, specs.Circles.{LeadsToEnd, NoneEnds, MayDestroy, AreDestroyed}, specs.Collected.{LeadsOut, AreCollected}, specs.Components.{Leads, number_of, AreComponents}, proofs.Circling.{walk_between, walk_numbers}, proofs.Grouping.{leads_then, leads_edge}}

module _ (p : Loaded) (scan : Scanned) (is : IsScan p scan) (found : Components) (are : AreComponents scan.rows found) (outer own : List (List ℕ)) (rows : AreCollected (LeadsOut scan.rows found.numbers) found.sets outer) (owns : AreCollected (λ k. Edge (own_rows scan)) found.sets own) where
  number : ℕ → ℕ
  number a = number_of found.numbers a

  -- an edge between components is one between nodes of them
  outer_from : (k j : ℕ) → Edge outer k j → (a : ℕ) × (a < length scan.rows) × (number_of found.numbers a ≡ k) × LeadsOut scan.rows found.numbers k a j
  outer_from k j edge =
      let low = edge_inside outer k j edge in
      let count = rows.count in
      let from = (rows.each k (omega arith)).given j edge in
      let in_set = (are.members from.0 k).0 from.1 in
      (from.0, in_set.0, in_set.1, from.2)

  own_from : (k c : ℕ) → Edge own k c → (a : ℕ) × (a < length scan.rows) × (number_of found.numbers a ≡ k) × Edge (own_rows scan) a c
  own_from k c edge =
      let low = edge_inside own k c edge in
      let count = owns.count in
      let from = (owns.each k (omega arith)).given c edge in
      let in_set = (are.members from.0 k).0 from.1 in
      (from.0, in_set.0, in_set.1, from.2)

  node_inside : (a b : ℕ) → Edge scan.rows a b → b < length scan.rows
  node_inside a b edge = edges_inside p scan is (length scan.rows) is.edges.count a b edge

  set_inside : (a : ℕ) → a < length scan.rows → number_of found.numbers a < length found.sets
  set_inside a low = edge_inside found.sets (number_of found.numbers a) a ((are.members a (number_of found.numbers a)).1 (low, refl))

  pub outer_range : InRange outer
  outer_range k j edge =
      let from = outer_from k j edge in
      let out = from.3 in
      let high = node_inside from.0 out.to out.edge in
      let inside = set_inside out.to high in
      let same = out.is in
      let count = rows.count in
      omega arith

  pub outer_falls : (k j : ℕ) → Edge outer k j → j < k
  outer_falls k j edge =
      let from = outer_from k j edge in
      let out = from.3 in
      let down = are.falls from.0 out.to out.edge in
      let first = from.2 in
      let last = out.is in
      elim (cases_eq j k) [ inl e ↦ absurd (out.other e) | inr ne ↦ omega arith ]

  pub no_cycle : (numbers : List ℕ) → ¬ IsToldCycle outer numbers
  no_cycle numbers told =
      let walk = told.cycle.comes_back.walk in
      let count = ap (λ (l : List ℕ). length l) walk.nodes_are in
      let more = told.cycle.comes_back.some in
      let down = falls told.first walk.after told.first walk.leads in
      omega arith
    where
      falls : (k : ℕ) (ws : List ℕ) (j : ℕ) → LeadsBy (Edge outer) k ws j → j + length ws ≤ k
      falls k [] j leads = let same : k ≡ j = leads in omega arith
      falls k (w ∷ ws) j leads = let first = outer_falls k w leads.0 in let rest = falls w ws j leads.1 in omega arith

  pub own_low : (k c : ℕ) → Edge own k c → c < length p.classes
  own_low k c edge =
      let from = own_from k c edge in
      let end = own_is p scan is from.0 c from.3 in
      closure_low p (end.0).class c end.3

  -- along edges between components edges lead from each of their nodes
  down_to : (a k : ℕ) (ws : List ℕ) (to c : ℕ) → a < length scan.rows → number_of found.numbers a ≡ k → LeadsBy (Edge outer) k ws to → Edge own to c → (d : ℕ) × Leads scan.rows a d × Edge (own_rows scan) d c
  down_to a k [] to c low here leads has =
      let from = own_from to c has in
      let same : k ≡ to = leads in
      (from.0, are.together a from.0 low from.1 (here ∙ same ∙ sym from.2), from.3)
  down_to a k (w ∷ ws) to c low here leads has =
      let from = outer_from k w leads.0 in
      let out = from.3 in
      let high = node_inside from.0 out.to out.edge in
      let rest = down_to out.to w ws to c high out.is leads.1 has in
      let there = leads_edge scan.rows a from.0 out.to (are.together a from.0 low from.1 (here ∙ sym from.2)) out.edge in
      (rest.0, leads_then scan.rows a out.to rest.0 there rest.1, rest.2)

  -- .. and along edges between nodes such edges
  up_to : (a : ℕ) (ws : List ℕ) (d : ℕ) → LeadsBy (Edge scan.rows) a ws d → (along : List ℕ) × LeadsBy (Edge outer) (number_of found.numbers a) along (number_of found.numbers d)
  up_to a [] d leads = let same : a ≡ d = leads in ([], ap (number_of found.numbers) same)
  up_to a (w ∷ ws) d leads =
      let rest = up_to w ws d leads.1 in
      let low = edge_inside scan.rows a w leads.0 in
      elim (cases_eq (number_of found.numbers w) (number_of found.numbers a)) [
        | inl e ↦ (rest.0, subst (λ (n : ℕ). LeadsBy (Edge outer) n rest.0 (number_of found.numbers d)) e rest.1)
        | inr ne ↦
            let among = (are.members a (number_of found.numbers a)).1 (low, refl) in
            let edge = (rows.each (number_of found.numbers a) (set_inside a low)).each a (number_of found.numbers w) among (record { to = w; edge = leads.0; is = refl; other = ne }) in
            (number_of found.numbers w ∷ rest.0, (edge, rest.1))
      ]

  ends_at : EdgesJoinNodes p → (x : Node) (zs : List Node) (y : Node) (n : ℕ) → LeadsBy (MayLead p) x zs y → IsAt (nodes_of p) x n → (m : ℕ) × IsAt (nodes_of p) y m
  ends_at join x [] y n leads at = let same : x ≡ y = leads in (n, subst (λ (z : Node). IsAt (nodes_of p) z n) same at)
  ends_at join x (z ∷ zs) y n leads at = let node = (join x z leads.0).1 in ends_at join z zs y node.0 leads.1 node.1

  pub are_destroyed : EdgesJoinNodes p → (leads : ℕ → ℕ → Bool) → AreClasses outer own leads → AreDestroyed p found.numbers leads
  are_destroyed join leads classes n x at c = (from, back)
    where
      low : n < length scan.rows
      low = let inside = slice_get_within (nodes_of p) n x at in let count = is.edges.count in omega arith

      from : leads (number_of found.numbers n) c ≡ true → MayDestroy p x c
      from told =
          let to = (classes (number_of found.numbers n) c).0 told in
          let down = down_to n (number_of found.numbers n) to.along to.to c low refl to.leads to.has in
          let end = own_is p scan is down.0 c down.2 in
          let walk = walk_between p scan is n down.1.along down.0 x end.0 down.1.leads at end.1 in
          record { to = end.0; along = walk.0; leads = walk.1; destruction = end.2; holds = end.3 }

      back : MayDestroy p x c → leads (number_of found.numbers n) c ≡ true
      back may =
          let to = ends_at join x may.along may.to n may.leads at in
          let walk = walk_numbers p scan is found are join x may.along may.to n to.0 may.leads at to.1 (one_number p may.to) in
          let up = up_to n walk.0 to.0 walk.1 in
          let has = own_has p scan is to.0 may.to c to.1 may.destruction may.holds in
          let high = slice_get_within (nodes_of p) to.0 may.to to.1 in
          let count = is.edges.count in
          let inside : to.0 < length scan.rows = omega arith in
          let among = (are.members to.0 (number_of found.numbers to.0)).1 (inside, refl) in
          let mine = (owns.each (number_of found.numbers to.0) (set_inside to.0 inside)).each to.0 c among has in
          (classes (number_of found.numbers n) c).1 (record { along = up.0; to = number_of found.numbers to.0; leads = up.1; has = mine })

-- ---- slots and natives
-- none of the first nodes is of a slot or native from which an object of its own class may be destroyed
abbrev pub NoneBefore : Loaded → List ℕ → (ℕ → ℕ → Bool) → ℕ → Type 0
NoneBefore p numbers leads end = (n : ℕ) (x : Node) → n < end → IsAt (nodes_of p) x n → HasBody p x → ¬ (leads (number_of numbers n) x.class ≡ true)

pub before_none : (p : Loaded) (numbers : List ℕ) (leads : ℕ → ℕ → Bool) → NoneBefore p numbers leads 0
before_none p numbers leads n x low at = absurd (omega arith)

pub before_more : (p : Loaded) (numbers : List ℕ) (leads : ℕ → ℕ → Bool) (end : ℕ) (x : Node) → IsAt (nodes_of p) x end → (HasBody p x → ¬ (leads (number_of numbers end) x.class ≡ true)) → NoneBefore p numbers leads end → NoneBefore p numbers leads (end + 1)
before_more p numbers leads end x here none before n y low at body =
    elim (cases_eq n end) [
      | inl e ↦
          let same : x ≡ y = same_Some x y (sym here ∙ subst (λ (k : ℕ). IsAt (nodes_of p) y k) e at) in
          subst (λ (k : ℕ). ¬ (leads (number_of numbers k) y.class ≡ true)) (sym e)
          (subst (λ (z : Node). HasBody p z → ¬ (leads (number_of numbers end) z.class ≡ true)) same none body)
      | inr ne ↦ before n y (omega arith) at body
    ]

pub ends_told : (p : Loaded) (numbers : List ℕ) (leads : ℕ → ℕ → Bool) (n k : ℕ) (x : Node) → AreDestroyed p numbers leads → IsAt (nodes_of p) x n → HasBody p x → k ≡ number_of numbers n → leads k x.class ≡ true → LeadsToEnd p x
ends_told p numbers leads n k x are at body same told =
    let may = (are n x at x.class).0 (subst (λ (i : ℕ). leads i x.class ≡ true) same told) in
    record { to = may.to; along = may.along; leads = may.leads; body = body; destruction = may.destruction; holds = may.holds }

pub none_ends : (p : Loaded) (numbers : List ℕ) (leads : ℕ → ℕ → Bool) (end : ℕ) → EdgesJoinNodes p → AreDestroyed p numbers leads → length (nodes_of p) ≤ end → NoneBefore p numbers leads end → NoneEnds p
none_ends p numbers leads end join are past none x ends =
    let node = begins x ends.along ends.to ends.leads ends.body ends.destruction in
    let low = slice_get_within (nodes_of p) node.0 x node.1 in
    none node.0 x (omega arith) node.1 ends.body
    ((are node.0 x node.1 x.class).1 (record { to = ends.to; along = ends.along; leads = ends.leads; destruction = ends.destruction; holds = ends.holds }))
  where
    begins : (x : Node) (zs : List Node) (y : Node) → LeadsBy (MayLead p) x zs y → HasBody p x → y.member ≡ member.Destruction → IsNode p x
    begins x [] y leads body destruction = let same : x ≡ y = leads in let from = body.from in let e = ap (λ (n : Node). n.member) same in absurd (cc)
    begins x (z ∷ zs) y leads body destruction = (join x z leads.0).0
