-- The conditions on edges and destroy sets, of nodes and by their numbers.
use Rattle.std.proofs.{Common.{◌≡◌, ℕ, ◌<◌, ◌≤◌, Bool, List, slice_get, Some, sym, ap, ◌∙◌, subst, arith}, lemmas.Option.{slice_get_within, same_Some}}
use Rattle.meta_model.specs.Loaded.{Loaded}
use Rattle.effect_scan.specs.{declared.node.Node.{Node}, Nodes.{nodes_of, IsAt}, Laws.{IsNode, EdgesJoinNodes}, Rows.{row, Edge}, Edges.{MayLead}, Scans.{Scanned, IsScan}}
use Rattle.rank_check.{specs.Entries.{IsSet}, proofs.Elements.{some_inside, place_of}, proofs.Assembled.{one_at}}
use Rattle.settling.specs.{declared.certificate.SettlingLine.{SettlingLine}, declared.certificate.SettlingCertificate.{SettlingCertificate}, declared.standings.Standing.{Standing}, Hands.{HandOn}, Settles.{IsProperty}, Sets.{AreTogether}, Valid.{IsLineOf, HasNothingElse, EdgesFall, SetsHold}, code.Standings.{AreStandings, AreDestroySets}, code.ByNumbers.{LeadIn, Shares, FallsAlong, Fall, Hold, Holds}}

-- the lines of a node are one
pub one_line : {p : Loaded} {certificate : SettlingCertificate} → HasNothingElse p certificate → (x : Node) (a b : SettlingLine) → IsLineOf p certificate x a → IsLineOf p certificate x b → a ≡ b
one_line {p} {certificate} rest x a b one two =
    let j = place_of certificate.lines a one.stands in
    let k = place_of certificate.lines b two.stands in
    let same : j.0 ≡ k.0 = rest.once j.0 k.0 a b x j.1 k.1 one.named two.named in
    same_Some a b (sym j.1 ∙ ap (λ (n : ℕ). slice_get certificate.lines n) same ∙ k.1)

module _ (p : Loaded) (certificate : SettlingCertificate) (scan : Scanned) (is : IsScan p scan) (rest : HasNothingElse p certificate) where
  pub edge_of : (x y : Node) (n m : ℕ) → IsAt (nodes_of p) x n → IsAt (nodes_of p) y m → MayLead p x y → Edge scan.rows n m
  edge_of x y n m at_x at_y leads = (is.edges.edges n m).1 (record { from = x; to = y; is_from = at_x; is_to = at_y; leads = leads })

  -- ---- standings
  module _ (standings : List Standing) (are : AreStandings p certificate standings) where
    pub record StandsFor (x : Node) : Type 0 where
      pub number : ℕ
      pub standing : Standing
      pub at : slice_get standings number ≡ Some standing
      pub node : standing.node ≡ x

    pub standing_of : (x : Node) → IsNode p x → StandsFor x
    standing_of x node =
        let low = slice_get_within (nodes_of p) node.0 x node.1 in
        let found = some_inside standings node.0 (omega (arith, low, are.count)) in
        record { number = node.0; standing = found.0; at = found.1; node = one_at p found.0.node x node.0 (are.each node.0 found.0 found.1).at node.1 }

    -- the line of a node is that of its standing
    pub line_of : (n : ℕ) (s : Standing) (at : slice_get standings n ≡ Some s) (line : SettlingLine) → IsLineOf p certificate s.node line → (s.rank ≡ line.rank) × (s.step ≡ line.step)
    line_of n s at line is_line =
        let own = are.each n s at in
        let same = one_line rest s.node own.line line own.is is_line in
        (own.rank ∙ ap (λ (l : SettlingLine). l.rank) same, own.step ∙ ap (λ (l : SettlingLine). l.step) same)

    pub lead_in : LeadIn p scan.rows standings
    lead_in a from at b edge =
        let leads = (is.edges.edges a b).0 edge in
        let low = slice_get_within (nodes_of p) b leads.to leads.is_to in
        let found = some_inside standings b (omega (arith, low, are.count)) in
        let first : leads.from ≡ from.node = one_at p leads.from from.node a leads.is_from (are.each a from at).at in
        let second : leads.to ≡ found.0.node = one_at p leads.to found.0.node b leads.is_to (are.each b found.0 found.1).at in
        (found.0, found.1, subst (λ (x : Node). MayLead p x found.0.node) first (subst (λ (y : Node). MayLead p leads.from y) second leads.leads))

    together : (a b : ℕ) (s t : Standing) → slice_get standings a ≡ Some s → slice_get standings b ≡ Some t → Shares s.set t.set → AreTogether p certificate s.node t.node
    together a b s t at_a at_b shares = (shares.0, ((are.each a s at_a).set shares.0).0 shares.1, ((are.each b t at_b).set shares.0).0 shares.2)

    apart : (a b : ℕ) (s t : Standing) → slice_get standings a ≡ Some s → slice_get standings b ≡ Some t → AreTogether p certificate s.node t.node → Shares s.set t.set
    apart a b s t at_a at_b both = (both.0, ((are.each a s at_a).set both.0).1 both.1, ((are.each b t at_b).set both.0).1 both.2)

    pub fall_by_numbers : EdgesFall p certificate → Fall p scan.rows standings
    fall_by_numbers all a s at_a b t edge at_b =
        let found = lead_in a s at_a b edge in
        let leads = subst (λ (x : Standing). MayLead p s.node x.node) (same_Some found.0 t (sym found.1 ∙ at_b)) found.2 in
        let from = are.each a s at_a in
        let to = are.each b t at_b in
        record {
          within = λ shares way. all.within s.node t.node (together a b s t at_a at_b shares) way way;
          falls_within = λ shares other.
              let fall = all.falls_within s.node t.node from.line to.line leads from.is to.is (together a b s t at_a at_b shares) other in
              omega (arith, fall, from.rank, to.rank);
          falls = λ differ.
              let fall = all.falls s.node t.node from.line to.line leads from.is to.is (λ both. differ (apart a b s t at_a at_b both)) in
              omega (arith, fall, from.rank, to.rank);
          steps = let low = all.steps s.node t.node from.line to.line leads from.is to.is in omega (arith, low, from.step, to.step);
        }

    -- what has to hold of an edge from the one node to the other
    record FallsAt (x y : Node) : Type 0 where
      pub within : AreTogether p certificate x y → HandOn p x y
      pub falls_within : (a b : SettlingLine) → IsLineOf p certificate x a → IsLineOf p certificate y b → AreTogether p certificate x y → (¬ IsProperty y) → b.rank < a.rank
      pub falls : (a b : SettlingLine) → IsLineOf p certificate x a → IsLineOf p certificate y b → (¬ AreTogether p certificate x y) → b.rank < a.rank
      pub steps : (a b : SettlingLine) → IsLineOf p certificate x a → IsLineOf p certificate y b → b.step ≤ a.step

    falls_at : (n m : ℕ) (s t : Standing) → slice_get standings n ≡ Some s → slice_get standings m ≡ Some t → FallsAlong p s t → FallsAt s.node t.node
    falls_at n m s t at_n at_m fall = record {
      within = λ both. fall.within (apart n m s t at_n at_m both);
      falls_within = λ a b line_a line_b both other.
          let low = fall.falls_within (apart n m s t at_n at_m both) other in
          let first = line_of n s at_n a line_a in
          let second = line_of m t at_m b line_b in
          omega (arith, low, first.0, second.0);
      falls = λ a b line_a line_b differ.
          let low = fall.falls (λ shares. differ (together n m s t at_n at_m shares)) in
          let first = line_of n s at_n a line_a in
          let second = line_of m t at_m b line_b in
          omega (arith, low, first.0, second.0);
      steps = λ a b line_a line_b.
          let first = line_of n s at_n a line_a in
          let second = line_of m t at_m b line_b in
          omega (arith, fall.steps, first.1, second.1);
    }

    module _ (join : EdgesJoinNodes p) (fall : Fall p scan.rows standings) where
      along : (x y : Node) → MayLead p x y → FallsAt x y
      along x y leads =
          let ends = join x y leads in
          let s = standing_of x ends.0 in
          let t = standing_of y ends.1 in
          let at_x = subst (λ (z : Node). IsAt (nodes_of p) z s.number) s.node (are.each s.number s.standing s.at).at in
          let at_y = subst (λ (z : Node). IsAt (nodes_of p) z t.number) t.node (are.each t.number t.standing t.at).at in
          let falls = fall s.number s.standing s.at t.number t.standing (edge_of x y s.number t.number at_x at_y leads) t.at in
          subst (λ (z : Node). FallsAt x z) t.node (subst (λ (z : Node). FallsAt z t.standing.node) s.node (falls_at s.number t.number s.standing t.standing s.at t.at falls))

      pub fall_of_nodes : EdgesFall p certificate
      fall_of_nodes = record {
        within = λ x y both way. (along x y way).within both;
        falls_within = λ x y a b leads line_a line_b both other. (along x y leads).falls_within a b line_a line_b both other;
        falls = λ x y a b leads line_a line_b differ. (along x y leads).falls a b line_a line_b differ;
        steps = λ x y a b leads line_a line_b. (along x y leads).steps a b line_a line_b;
      }

  -- ---- destroy sets
  module _ (destroys : List (List Bool)) (are : AreDestroySets p certificate destroys) where
    -- the set of a node is that of its line
    set_of : (n : ℕ) (set : List Bool) (at : slice_get destroys n ≡ Some set) (x : Node) (line : SettlingLine) → IsAt (nodes_of p) x n → IsLineOf p certificate x line → IsSet p line.destroys set
    set_of n set at x line at_x is_line =
        let own = are.each n set at in
        let here = subst (λ (z : Node). IsLineOf p certificate z own.line) (one_at p own.node x n own.at at_x) own.is in
        subst (λ (l : SettlingLine). IsSet p l.destroys set) (one_line rest x own.line line here is_line) own.is_set

    set_at : (x : Node) (n : ℕ) → IsAt (nodes_of p) x n → (set : List Bool) × (slice_get destroys n ≡ Some set)
    set_at x n at_x = let low = slice_get_within (nodes_of p) n x at_x in some_inside destroys n (omega (arith, low, are.count))

    pub hold_by_numbers : SetsHold p certificate → Hold p scan.nodes scan.rows destroys
    hold_by_numbers all a x set stands at =
        let at_x = subst (λ (ns : List Node). slice_get ns a ≡ Some x) is.nodes stands in
        let own = are.each a set at in
        let line = subst (λ (z : Node). IsLineOf p certificate z own.line) (one_at p own.node x a own.at at_x) own.is in
        record {
          own = record {
            closure = λ member d closure. (own.is_set.marks d).1 (all.closures x own.line d member line closure);
            spared = λ body marked. all.spared x own.line body line ((own.is_set.marks x.class).0 marked);
          };
          passed_on = λ b other edge at_b d marked.
              let leads = (is.edges.edges a b).0 edge in
              let from = one_at p leads.from x a leads.is_from at_x in
              let to = are.each b other at_b in
              let here = one_at p to.node leads.to b to.at leads.is_to in
              let line_b = subst (λ (z : Node). IsLineOf p certificate z to.line) here to.is in
              let way = subst (λ (z : Node). MayLead p z leads.to) from leads.leads in
              (own.is_set.marks d).1 (all.passed_on x leads.to own.line to.line d way line line_b ((to.is_set.marks d).0 marked));
        }

    pub hold_of_nodes : EdgesJoinNodes p → Hold p scan.nodes scan.rows destroys → SetsHold p certificate
    hold_of_nodes join hold = record {
      passed_on = λ x y a b d leads line_a line_b in_b.
          let ends = join x y leads in
          let n = ends.0 in let m = ends.1 in
          let first = set_at x n.0 n.1 in
          let second = set_at y m.0 m.1 in
          let edge = edge_of x y n.0 m.0 n.1 m.1 leads in
          let marked = ((set_of m.0 second.0 second.1 y b m.1 line_b).marks d).1 in_b in
          ((set_of n.0 first.0 first.1 x a n.1 line_a).marks d).0 ((holds_at x n first).passed_on m.0 second.0 edge second.1 d marked);
      closures = λ x line d member is_line closure.
          let n = is_line.named.node in
          let set = set_at x n.0 n.1 in
          ((set_of n.0 set.0 set.1 x line n.1 is_line).marks d).0 ((holds_at x n set).own.closure member d closure);
      spared = λ x line body is_line in_line.
          let n = is_line.named.node in
          let set = set_at x n.0 n.1 in
          (holds_at x n set).own.spared body (((set_of n.0 set.0 set.1 x line n.1 is_line).marks x.class).1 in_line);
    }
      where
        holds_at : (x : Node) (n : IsNode p x) (set : (s : List Bool) × (slice_get destroys n.0 ≡ Some s)) → Holds p x (row scan.rows n.0) destroys set.0
        holds_at x n set = hold n.0 x set.0 (subst (λ (ns : List Node). slice_get ns n.0 ≡ Some x) (sym is.nodes) n.1) set.1
