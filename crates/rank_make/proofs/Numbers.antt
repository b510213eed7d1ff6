-- Walks between nodes and between their numbers.
use Rattle.std.{proofs.Common.{◌≡◌, ℕ, suc, ◌+◌, ◌<◌, ◌≤◌, Bool, true, List, [], ◌∷◌, length, slice_get, Some, refl, sym, ap, ◌∙◌, subst, arith}, specs.List.{Contains, AllZip}, specs.Option.{option_map}, proofs.lemmas.List.{length-map}, proofs.lemmas.Option.{slice_get-map}}
use Rattle.meta_model.specs.Loaded.{Loaded}
use Rattle.effect_scan.{specs.declared.node.Node.{Node}, specs.declared.node.Member.{Member}, specs.declared.node.Member.TheVariants.{Method, Property, Destruction}, specs.Nodes.{nodes_of, IsAt}, specs.Rows.{row, Edge}, specs.Edges.{MayLead}, specs.Destroying.{Closure}, specs.Laws.{EdgesJoinNodes}, specs.Scans.{Scanned, IsScan}, proofs.Adding.{row_found, no_members, edge_inside}}
use Rattle.rank_check.proofs.Elements.{some_inside}
use Rattle.rank_graph.specs.{Solutions.{LeadsTo}, Walks.{LeadsBy}}
use Rattle.rank_make.{specs.Walks.{NoCycle, NoDestroyPath}, specs.Solved.{own_by, own_of, own_rows, IsSolved, NoneEnds}, proofs.Placed.{one_number, one_at}, proofs.Barred.{begins_at_node, path_some}}

module _ (p : Loaded) (scan : Scanned) (is : IsScan p scan) where
  pub edge_of : (x y : Node) (n m : ℕ) → IsAt (nodes_of p) x n → IsAt (nodes_of p) y m → MayLead p x y → Edge scan.rows n m
  edge_of x y n m at_x at_y leads = (is.edges.edges n m).1 (record { from = x; to = y; is_from = at_x; is_to = at_y; leads = leads })

  -- an edge by numbers is one from this node
  pub edge_leads : (a b : ℕ) (x : Node) → Edge scan.rows a b → IsAt (nodes_of p) x a → (y : Node) × IsAt (nodes_of p) y b × MayLead p x y
  edge_leads a b x edge at =
      let leads = (is.edges.edges a b).0 edge in
      (leads.to, leads.is_to, subst (λ (n : Node). MayLead p n leads.to) (one_at p leads.from x a leads.is_from at) leads.leads)

  -- a walk by numbers is one between the nodes of these numbers
  pub lift : (a : ℕ) (ws : List ℕ) (b : ℕ) (x : Node) (zs : List Node) → LeadsBy (Edge scan.rows) a ws b → IsAt (nodes_of p) x a → AllZip (λ n z. IsAt (nodes_of p) z n) ws zs
      → (y : Node) × IsAt (nodes_of p) y b × LeadsBy (MayLead p) x zs y
  lift a [] b x [] leads at zip = let same : a ≡ b = leads in (x, subst (λ (n : ℕ). IsAt (nodes_of p) x n) same at, refl)
  lift a [] b x (z ∷ zs) leads at zip = absurd zip
  lift a (w ∷ ws) b x [] leads at zip = absurd zip
  lift a (w ∷ ws) b x (z ∷ zs) leads at zip =
      let edge = edge_leads a w x leads.0 at in
      let same : edge.0 ≡ z = one_at p edge.0 z w edge.1 zip.0 in
      let rest = lift w ws b z zs leads.1 zip.0 zip.1 in
      (rest.0, rest.1, (subst (λ (n : Node). MayLead p x n) same edge.2, rest.2))

  -- a walk between nodes is one between their numbers
  pub lower : EdgesJoinNodes p → (x : Node) (zs : List Node) (y : Node) (a : ℕ) → LeadsBy (MayLead p) x zs y → IsAt (nodes_of p) x a
      → (ws : List ℕ) × (b : ℕ) × LeadsBy (Edge scan.rows) a ws b × IsAt (nodes_of p) y b × (length ws ≡ length zs)
  lower join x [] y a leads at = let same : x ≡ y = leads in ([], a, refl, subst (λ (n : Node). IsAt (nodes_of p) n a) same at, refl)
  lower join x (z ∷ zs) y a leads at =
      let node = (join x z leads.0).1 in
      let rest = lower join z zs y node.0 leads.1 node.1 in
      (node.0 ∷ rest.0, rest.1, (edge_of x z a node.0 at node.1 leads.0, rest.2), rest.3, ap (λ (n : ℕ). suc n) rest.4)

  -- ---- what a node destroys itself
  own_at : (b : ℕ) (y : Node) → IsAt (nodes_of p) y b → row (own_rows scan) b ≡ own_of scan.closures y
  own_at b y at =
      let here : slice_get scan.nodes b ≡ Some y = subst (λ (ns : List Node). slice_get ns b ≡ Some y) (sym is.nodes) at in
      sym (row_found (own_rows scan) b (own_of scan.closures y) (slice_get-map (own_of scan.closures) scan.nodes b ∙ ap (option_map (own_of scan.closures)) here))

  pub own_has : (b : ℕ) (y : Node) (d : ℕ) → IsAt (nodes_of p) y b → y.member ≡ Destruction → Closure p y.class d → Edge (own_rows scan) b d
  own_has b y d at destruction closure =
      let is_row : row (own_rows scan) b ≡ row scan.closures y.class = own_at b y at ∙ ap (own_by scan.closures y.class) destruction in
      subst (λ (r : List ℕ). Contains r d) (sym is_row) ((is.closures.members y.class d).1 closure)

  own_of_member : (c : ℕ) (m : Member) (d : ℕ) → Contains (own_by scan.closures c m) d → (m ≡ Destruction) × Closure p c d
  own_of_member c (Method k) d h = absurd (no_members d h)
  own_of_member c (Property q) d h = absurd (no_members d h)
  own_of_member c Destruction d h = (refl, (is.closures.members c d).0 h)

  pub own_is : (b d : ℕ) → Edge (own_rows scan) b d → (y : Node) × IsAt (nodes_of p) y b × (y.member ≡ Destruction) × Closure p y.class d
  own_is b d edge =
      let low = edge_inside (own_rows scan) b d edge in
      let count = length-own in
      let inside : b < length (nodes_of p) = omega arith in
      let y = some_inside (nodes_of p) b inside in
      let own = own_of_member (y.0).class (y.0).member d (subst (λ (r : List ℕ). Contains r d) (own_at b y.0 y.1) edge) in
      (y.0, y.1, own.0, own.1)
    where
      length-own : length (own_rows scan) ≡ length (nodes_of p)
      length-own = length-map scan.nodes (own_of scan.closures) ∙ ap (λ (ns : List Node). length ns) is.nodes

  module _ (rank : ℕ → ℕ) (leads : ℕ → ℕ → Bool) (solved : IsSolved scan rank leads) where
    -- ---- by numbers
    pub rank_falls : (a b : ℕ) → Edge scan.rows a b → rank b < rank a
    rank_falls a b edge =
        let chain = solved.ranks.chains b in
        let low : length (b ∷ chain.0) ≤ rank a = solved.ranks.longest a (b ∷ chain.0) chain.1 (edge, chain.2) in
        omega (arith, chain.3)

    walk_low : (a : ℕ) (ws : List ℕ) (b : ℕ) → LeadsBy (Edge scan.rows) a ws b → rank b + length ws ≤ rank a
    walk_low a [] b leads = let same : a ≡ b = leads in let e = ap rank same in omega arith
    walk_low a (w ∷ ws) b leads = let rest = walk_low w ws b leads.1 in let low = rank_falls a w leads.0 in omega arith

    pub leads_back : (a b c : ℕ) → Edge scan.rows a b → leads b c ≡ true → leads a c ≡ true
    leads_back a b c edge h =
        let to = (solved.classes b c).0 h in
        (solved.classes a c).1 (record { along = b ∷ to.along; to = to.to; leads = (edge, to.leads); has = to.has })

    -- ---- between nodes
    module _ (join : EdgesJoinNodes p) where
      pub no_cycle : NoCycle p
      no_cycle x nodes cycle =
          let walk = cycle.walk in
          let count = ap (λ (ns : List Node). length ns) walk.nodes_are in
          let more = cycle.some in
          let some : 0 < length walk.after = omega arith in
          let node = begins_at_node p join x walk.after x walk.leads some in
          let by = lower join x walk.after x node.0 walk.leads node.1 in
          let same : by.1 ≡ node.0 = one_number p x by.1 node.0 by.3 node.1 in
          let low = walk_low node.0 by.0 by.1 by.2 in
          let e = ap rank same in
          let long = by.4 in
          omega arith

      pub no_path : NoneEnds p leads → NoDestroyPath p
      no_path none nodes path =
          let walk = path.walk in
          let some = path_some p join path.from walk.after path.to walk.leads path.body path.destruction in
          let node = begins_at_node p join path.from walk.after path.to walk.leads some in
          let by = lower join path.from walk.after path.to node.0 walk.leads node.1 in
          let to : LeadsTo scan.rows (own_rows scan) node.0 (path.from).class = record { along = by.0; to = by.1; leads = by.2; has = own_has by.1 path.to (path.from).class by.3 path.destruction path.holds } in
          none node.0 path.from (record { at = node.1; body = path.body; leads_to = (solved.classes node.0 (path.from).class).1 to })
