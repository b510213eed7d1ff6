-- Why the certificate that is made is valid, and least.
use Rattle.std.{proofs.Common.{◌≡◌, ◌⊎◌, inl, inr, ◌↔◌, ℕ, suc, ◌+◌, ◌<◌, ◌≤◌, Bool, true, List, [], ◌∷◌, length, slice_get, Some, refl, sym, ap, ◌∙◌, subst, arith}, specs.List.{AllZip}, proofs.lemmas.Option.{slice_get_within}}
use Rattle.meta_model.specs.{Loaded.{Loaded}, Sound.{IsSound}}
use Rattle.effect_scan.specs.{declared.node.Node.{Node}, Nodes.{nodes_of, IsAt}, Rows.{Edge}, Destroying.{Closure}, Laws.{EdgesJoinNodes}, Scans.{Scanned, IsScan}}
use Rattle.certificate_lang.specs.{declared.certificate.Line.{Line}, declared.certificate.Certificate.{Certificate}}
use Rattle.rank_check.{specs.Names.{IsNodeNamed}, specs.Valid.{IsLineOf, Destroys, AreClassesThere, HasEachNode, HasNothingElse, RanksFall, SetsHold, IsBounded, IsValid, most_bound}, specs.Entries.{IsReady}, proofs.Elements.{some_inside, place_of, element_at}, proofs.Listing.{closure_low}}
use Rattle.rank_graph.specs.{Solutions.{LeadsTo}, Walks.{LeadsBy}}
use Rattle.rank_make.{specs.Least.{IsLeast, AreInOrder, IsInOrder, IsLeastValid}, specs.Solved.{own_rows, IsSolved, NoneEnds, IsLineFor, AreLinesFor}, proofs.Listed.{closure_then, listed_is, listed_there}, proofs.Placed.{one_number, one_at, one_name}, proofs.Numbers.{edge_of, edge_leads, own_has, own_is, rank_falls, leads_back}}

-- two lists related element by element
zip_from : {A B : Type 0} (R : A → B → Type 0) (xs : List A) (ys : List B) → length xs ≡ length ys → ((n : ℕ) (x : A) (y : B) → slice_get xs n ≡ Some x → slice_get ys n ≡ Some y → R x y) → AllZip R xs ys
zip_from R [] [] count each = tt
zip_from R [] (y ∷ ys) count each = absurd (omega arith)
zip_from R (x ∷ xs) [] count each = absurd (omega arith)
zip_from R (x ∷ xs) (y ∷ ys) count each = (each 0 x y refl refl, zip_from R xs ys (omega arith) (λ n. each (suc n)))

module _ (p : Loaded) (sound : IsSound p) (join : EdgesJoinNodes p) (scan : Scanned) (is : IsScan p scan) (rank : ℕ → ℕ) (leads : ℕ → ℕ → Bool) (solved : IsSolved scan rank leads) where
  -- ---- what a valid certificate has to say
  module _ (other : Certificate) (valid : IsValid p other) where
    -- a rank is at least as great as a walk is long
    walk_low : (n : ℕ) (ws : List ℕ) (to : ℕ) (x : Node) (b : Line) → LeadsBy (Edge scan.rows) n ws to → IsAt (nodes_of p) x n → IsLineOf p other x b → length ws ≤ b.rank
    walk_low n [] to x b walk at line = omega arith
    walk_low n (w ∷ ws) to x b walk at line =
        let edge = edge_leads p scan is n w x walk.0 at in
        let next = valid.each_node edge.0 (w, edge.1) in
        let rest = walk_low w ws to edge.0 next.0 walk.1 edge.1 next.1 in
        let low = valid.ranks x edge.0 b next.0 edge.2 line next.1 in
        omega arith

    -- .. so it is at least as great as the one here
    rank_low : (n : ℕ) (x : Node) (b : Line) → IsAt (nodes_of p) x n → IsLineOf p other x b → rank n ≤ b.rank
    rank_low n x b at line =
        let chain = solved.ranks.chains n in
        let low = walk_low n chain.0 chain.1 x b chain.2 at line in
        omega (arith, chain.3)

    -- a set has each class that a walk leads to
    walk_has : (n : ℕ) (ws : List ℕ) (to d : ℕ) (x : Node) (b : Line) → LeadsBy (Edge scan.rows) n ws to → Edge (own_rows scan) to d → IsAt (nodes_of p) x n → IsLineOf p other x b → Destroys p b d
    walk_has n [] to d x b walk own at line =
        let same : n ≡ to = walk in
        let end = own_is p scan is to d own in
        let node : end.0 ≡ x = one_at p end.0 x to end.1 (subst (λ (k : ℕ). IsAt (nodes_of p) x k) same at) in
        valid.sets.closures x b d (sym (ap (λ (y : Node). y.member) node) ∙ end.2) line (subst (λ (y : Node). Closure p y.class d) node end.3)
    walk_has n (w ∷ ws) to d x b walk own at line =
        let edge = edge_leads p scan is n w x walk.0 at in
        let next = valid.each_node edge.0 (w, edge.1) in
        valid.sets.passed_on x edge.0 b next.0 d edge.2 line next.1 (walk_has w ws to d edge.0 next.0 walk.1 own edge.1 next.1)

  -- ---- a line that is made
  class_low : (n d : ℕ) → leads n d ≡ true → d < length p.classes
  class_low n d h =
      let to = (solved.classes n d).0 h in
      let end = own_is p scan is to.to d to.has in
      closure_low p (end.0).class d end.3

  leads_on : (n c d : ℕ) → leads n c ≡ true → Closure p c d → leads n d ≡ true
  leads_on n c d h closure =
      let to = (solved.classes n c).0 h in
      let end = own_is p scan is to.to c to.has in
      let has = own_has p scan is to.to end.0 d end.1 end.2 (closure_then p (end.0).class c d end.3 closure) in
      let on : LeadsTo scan.rows (own_rows scan) n d = record { along = to.along; to = to.to; leads = to.leads; has = has } in
      (solved.classes n d).1 on

  module _ (n : ℕ) (x : Node) (line : Line) (for : IsLineFor p rank leads n x line) where
    set_is : (d : ℕ) → Destroys p line d ↔ (leads n d ≡ true)
    set_is d = listed_is p sound (λ e. leads n e ≡ true) (class_low n) (leads_on n) line.destroys for.destroys d

    items_there : AreClassesThere p line.destroys
    items_there = listed_there p sound (λ e. leads n e ≡ true) (class_low n) (leads_on n) line.destroys for.destroys

    in_order : AreInOrder p line.destroys
    in_order = record {
      classes = for.destroys.classes;
      closures = for.destroys.closures;
      written = record {
        each = λ e held. let written = for.destroys.written.each e held in ((set_is e).1 (written.0).1, written.1);
        all = λ e listed. let h = (set_is e).0 listed in for.destroys.written.all e (class_low n e h, h);
        increasing = for.destroys.written.increasing;
      };
    }

  -- ---- all lines
  module _ (bound : ℕ) (lines : List Line) (are : AreLinesFor p rank leads lines) where
    abbrev certificate : Certificate
    certificate = record { bound = bound; lines = lines }

    -- the line at a number, and the node that stands there
    line_at : (n : ℕ) (x : Node) → IsAt (nodes_of p) x n → (line : Line) × (slice_get lines n ≡ Some line) × IsLineFor p rank leads n x line
    line_at n x at =
        let low = slice_get_within (nodes_of p) n x at in
        let count = are.count in
        let inside : n < length lines = omega arith in
        let line = some_inside lines n inside in
        (line.0, line.1, are.line n x line.0 at line.1)

    node_at : (n : ℕ) (line : Line) → slice_get lines n ≡ Some line → (x : Node) × IsAt (nodes_of p) x n × IsLineFor p rank leads n x line
    node_at n line at =
        let low = slice_get_within lines n line at in
        let count = are.count in
        let inside : n < length (nodes_of p) = omega arith in
        let x = some_inside (nodes_of p) n inside in
        (x.0, x.1, are.line n x.0 line x.1 at)

    -- the line of a node is at its number
    number_of : (x : Node) (line : Line) → IsLineOf p certificate x line → (n : ℕ) × IsAt (nodes_of p) x n × IsLineFor p rank leads n x line
    number_of x line of =
        let at = place_of lines line of.stands in
        let node = node_at at.0 line at.1 in
        let same : node.0 ≡ x = one_name p sound line.node node.0 x (node.2).named of.named in
        (at.0, subst (λ (y : Node). IsAt (nodes_of p) y at.0) same node.1, subst (λ (y : Node). IsLineFor p rank leads at.0 y line) same node.2)

    each_node : HasEachNode p certificate
    each_node x node =
        let line = line_at node.0 x node.1 in
        (line.0, record { stands = element_at lines node.0 line.0 line.1; named = (line.2).named })

    nothing_else : HasNothingElse p certificate
    nothing_else = record {
      nodes = λ line stands. let at = place_of lines line stands in let node = node_at at.0 line at.1 in (node.0, (node.2).named);
      once = λ j k a b x at_a at_b named_a named_b.
          let first = node_at j a at_a in
          let second = node_at k b at_b in
          let one : first.0 ≡ x = one_name p sound a.node first.0 x (first.2).named named_a in
          let two : second.0 ≡ x = one_name p sound b.node second.0 x (second.2).named named_b in
          one_number p x j k (subst (λ (y : Node). IsAt (nodes_of p) y j) one first.1) (subst (λ (y : Node). IsAt (nodes_of p) y k) two second.1);
      classes = λ line stands. let at = place_of lines line stands in let node = node_at at.0 line at.1 in items_there at.0 node.0 line node.2;
    }

    ranks : RanksFall p certificate
    ranks x y a b may of_a of_b =
        let from = number_of x a of_a in
        let to = number_of y b of_b in
        let low = rank_falls p scan is rank leads solved from.0 to.0 (edge_of p scan is x y from.0 to.0 from.1 to.1 may) in
        let first = (from.2).ranked in
        let second = (to.2).ranked in
        omega arith

    sets : NoneEnds p leads → SetsHold p certificate
    sets none = record {
      passed_on = λ x y a b d may of_a of_b destroys.
          let from = number_of x a of_a in
          let to = number_of y b of_b in
          let edge = edge_of p scan is x y from.0 to.0 from.1 to.1 may in
          (set_is from.0 x a from.2 d).1 (leads_back p scan is rank leads solved from.0 to.0 d edge ((set_is to.0 y b to.2 d).0 destroys));
      closures = λ x line d destruction of closure.
          let at = number_of x line of in
          let to : LeadsTo scan.rows (own_rows scan) at.0 d = record { along = []; to = at.0; leads = refl; has = own_has p scan is at.0 x d at.1 destruction closure } in
          (set_is at.0 x line at.2 d).1 ((solved.classes at.0 d).1 to);
      spared = λ x line body of destroys.
          let at = number_of x line of in
          none at.0 x (record { at = at.1; body = body; leads_to = (set_is at.0 x line at.2 x.class).0 destroys });
    }

    bounded : ((n : ℕ) → n < length (nodes_of p) → rank n < bound) → bound ≤ most_bound → IsBounded certificate
    bounded above most = record {
      ranks = λ line stands.
          let at = place_of lines line stands in
          let node = node_at at.0 line at.1 in
          let low = above at.0 (slice_get_within (nodes_of p) at.0 node.0 node.1) in
          let e = (node.2).ranked in
          omega arith;
      bound = most;
    }

    pub valid_made : IsReady p → NoneEnds p leads → ((n : ℕ) → n < length (nodes_of p) → rank n < bound) → bound ≤ most_bound → IsValid p certificate
    valid_made ready none above most = record {
      wires = ready.wires;
      typed = ready.typed;
      each_node = each_node;
      nothing_else = nothing_else;
      ranks = ranks;
      sets = sets none;
      bounded = bounded above most;
    }

    -- ---- leastness
    bound_least : (bound ≡ 0) ⊎ ((n : ℕ) × (n < length (nodes_of p)) × (rank n + 1 ≡ bound)) → (other : Certificate) → IsValid p other → bound ≤ other.bound
    bound_least from other valid =
        elim from [
          | inl zero_bound ↦ omega (arith, zero_bound)
          | inr high ↦
              let x = some_inside (nodes_of p) high.0 high.1 in
              let line = valid.each_node x.0 (high.0, x.1) in
              let low = rank_low other valid high.0 x.0 line.0 x.1 line.1 in
              let below = valid.bounded.ranks line.0 (line.1).stands in
              let e = high.2 in
              omega arith
        ]

    pub least_made : (bound ≡ 0) ⊎ ((n : ℕ) × (n < length (nodes_of p)) × (rank n + 1 ≡ bound)) → IsLeast p certificate
    least_made from = record {
      bound = bound_least from;
      ranks = λ other valid x a b of_a of_b.
          let at = number_of x a of_a in
          let low = rank_low other valid at.0 x b at.1 of_b in
          let e = (at.2).ranked in
          omega arith;
      sets = λ other valid x a b d of_a of_b destroys.
          let at = number_of x a of_a in
          let to = (solved.classes at.0 d).0 ((set_is at.0 x a at.2 d).0 destroys) in
          walk_has other valid at.0 to.along to.to d x b to.leads to.has at.1 of_b;
    }

    pub order_made : IsInOrder p certificate
    order_made = record {
      nodes = zip_from (λ x (line : Line). IsNodeNamed p line.node x) (nodes_of p) lines (sym are.count) (λ n x line at_x at_line. (are.line n x line at_x at_line).named);
      sets = λ line stands. let at = place_of lines line stands in let node = node_at at.0 line at.1 in in_order at.0 node.0 line node.2;
    }

    pub made : IsReady p → NoneEnds p leads → ((n : ℕ) → n < length (nodes_of p) → rank n < bound) → bound ≤ most_bound → (bound ≡ 0) ⊎ ((n : ℕ) × (n < length (nodes_of p)) × (rank n + 1 ≡ bound))
        → IsLeastValid p certificate
    made ready none above most from = record { valid = valid_made ready none above most; least = least_made from; order = order_made }
