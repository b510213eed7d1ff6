-- The members of sets that are made, by the numbers of nodes.
use Rattle.std.{proofs.Common.{◌≡◌, ℕ, ◌<◌, List, [], ◌∷◌, length, slice_get, Option, Some, None, refl, sym, ap, ◌∙◌, subst, arith}, specs.List.{Contains}, proofs.lemmas.Option.{slice_get_within}}
use Rattle.meta_model.specs.{Loaded.{Loaded}, Sound.{IsSound}}
use Rattle.name_indexes.proofs.Zips.{zip_left, zip_right}
use Rattle.effect_scan.specs.{declared.node.Node.{Node}, Nodes.{nodes_of, IsAt}, Rows.{row, Edge}, Scans.{Scanned, IsScan}}
use Rattle.rank_graph.{specs.Walks.{LeadsBy}, proofs.Driving.{edge_inside}}
use Rattle.rank_check.{specs.Names.{IsNodeNamed}, specs.Entries.{place_at}, proofs.Elements.{some_inside, place_of, element_at}}
use Rattle.rank_make.proofs.Placed.{one_number, one_at, one_name}
use Rattle.settling.specs.{declared.certificate.SettlingSet.{SettlingSet}, Sets.{IsMember}}
use Rattle.settling_make.{specs.declared.components.Components.{Components}, specs.declared.sets.Sets.{Sets}, specs.Components.{number_of, AreComponents}, specs.Sets.{HasInside, IsNameOf, AreSetsOf}, proofs.Circling.{number_falls}}

module _ (p : Loaded) (sound : IsSound p) (scan : Scanned) (is : IsScan p scan) (found : Components) (are : AreComponents scan.rows found) (height : ℕ → ℕ) (made : Sets) (sets_are : AreSetsOf p scan.rows found height made) where
  pub node_low : (x : Node) (n : ℕ) → IsAt (nodes_of p) x n → n < length scan.rows
  node_low x n at = let low = slice_get_within (nodes_of p) n x at in let count = is.edges.count in omega (arith, low, count)

  pub set_at : (k i : ℕ) → place_at made.places k ≡ Some i → (set : SettlingSet) × (slice_get made.sets i ≡ Some set)
  set_at k i here = some_inside made.sets i (sets_are.inside k i here)

  -- a member of the set at a place is of its component
  pub place_is : (i : ℕ) (set : SettlingSet) → slice_get made.sets i ≡ Some set → (x : Node) (n : ℕ) → IsAt (nodes_of p) x n → IsMember p set x → place_at made.places (number_of found.numbers n) ≡ Some i
  place_is i set stands x n at member =
      let k = sets_are.each i (slice_get_within made.sets i set stands) in
      let own = sets_are.is k.0 i set k.1 stands in
      let held = place_of set.members member.name member.among in
      let pair = zip_right (IsNameOf p) (row found.sets k.0) set.members own.names held.0 member.name held.1 in
      let same : (pair.2).node ≡ x = one_name p sound member.name (pair.2).node x (pair.2).named member.named in
      let number : pair.0 ≡ n = one_number p x pair.0 n (subst (λ (y : Node). IsAt (nodes_of p) y pair.0) same (pair.2).at) at in
      let in_set = (are.members pair.0 k.0).0 (element_at (row found.sets k.0) held.0 pair.0 pair.1) in
      ap (λ (a : ℕ). place_at made.places (number_of found.numbers a)) (sym number) ∙ ap (place_at made.places) in_set.1 ∙ k.1

  -- a node of a set's component is a member
  pub member_is : (i : ℕ) (set : SettlingSet) → slice_get made.sets i ≡ Some set → (x : Node) (n : ℕ) → IsAt (nodes_of p) x n → place_at made.places (number_of found.numbers n) ≡ Some i → IsMember p set x
  member_is i set stands x n at here =
      let own = sets_are.is (number_of found.numbers n) i set here stands in
      let held = place_of (row found.sets (number_of found.numbers n)) n ((are.members n (number_of found.numbers n)).1 (node_low x n at, refl)) in
      let pair = zip_left (IsNameOf p) (row found.sets (number_of found.numbers n)) set.members own.names held.0 n held.1 in
      let same : (pair.2).node ≡ x = one_at p (pair.2).node x n (pair.2).at at in
      record { name = pair.0; among = element_at set.members held.0 pair.0 pair.1; named = subst (λ (y : Node). IsNodeNamed p pair.0 y) same (pair.2).named }

  -- ---- edges within components
  -- a component with an edge inside has a set
  pub set_of : (n k : ℕ) → Edge scan.rows n k → number_of found.numbers n ≡ number_of found.numbers k → (i : ℕ) × (place_at made.places (number_of found.numbers n) ≡ Some i)
  set_of n k edge same = by_place (place_at made.places (number_of found.numbers n)) refl
    where
      low : n < length scan.rows
      low = edge_inside scan.rows n k edge

      among : Contains (row found.sets (number_of found.numbers n)) n
      among = (are.members n (number_of found.numbers n)).1 (low, refl)

      by_place : (place : Option ℕ) → place_at made.places (number_of found.numbers n) ≡ place → (i : ℕ) × (place_at made.places (number_of found.numbers n) ≡ Some i)
      by_place (Some i) at = (i, at)
      by_place None at =
          absurd (sets_are.none (number_of found.numbers n) (edge_inside found.sets (number_of found.numbers n) n among) at
          (record { from = n; to = k; among = among; edge = edge; inside = sym same }))

  -- from each node of a set's component an edge leads inside
  pub leads_inside : (n i : ℕ) → n < length scan.rows → place_at made.places (number_of found.numbers n) ≡ Some i → (k : ℕ) × Edge scan.rows n k × (number_of found.numbers n ≡ number_of found.numbers k)
  leads_inside n i low here =
      let has = sets_are.some (number_of found.numbers n) i here in
      let from = (are.members has.from (number_of found.numbers n)).0 has.among in
      let walk = are.together n has.from low from.0 (sym from.1) in
      first has from.1 walk.along walk.leads
    where
      first : (has : HasInside scan.rows found.numbers (number_of found.numbers n) (row found.sets (number_of found.numbers n))) → number_of found.numbers has.from ≡ number_of found.numbers n → (ws : List ℕ) → LeadsBy (Edge scan.rows) n ws has.from
          → (k : ℕ) × Edge scan.rows n k × (number_of found.numbers n ≡ number_of found.numbers k)
      first has there [] walk =
          let same : n ≡ has.from = walk in
          (has.to, subst (λ (a : ℕ). Edge scan.rows a has.to) (sym same) has.edge, sym has.inside)
      first has there (w ∷ ws) walk =
          let down = are.falls n w walk.0 in
          let up = number_falls p scan is found are w ws has.from walk.1 in
          (w, walk.0, omega (arith, down, up, there))
