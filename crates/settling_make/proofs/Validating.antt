-- Why the certificate that is made is valid.
use Rattle.std.{proofs.Common.{◌≡◌, ◌≢◌, inl, inr, ◌↔◌, ℕ, ◌+◌, ◌<◌, ◌≤◌, Bool, true, List, [], ◌∷◌, length, slice_get, Option, Some, Result, Ok, Err, refl, sym, ap, ◌∙◌, subst, arith}, proofs.Math.Nat.{mul-pos}, proofs.lemmas.Bool.{cases_eq}, proofs.lemmas.Option.{slice_get_within, same_Some}}
use Rattle.meta_model.specs.{Loaded.{Loaded}, Sound.{IsSound}}
use Rattle.name_indexes.proofs.Zips.{zip_right}
use Rattle.effect_scan.specs.{declared.node.Node.{Node}, Nodes.{nodes_of, IsAt}, Rows.{row, Edge}, Edges.{MayLead}, Destroying.{Closure}, Laws.{EdgesJoinNodes}, Scans.{Scanned}}
use Rattle.rank_graph.proofs.Driving.{edge_inside}
use Rattle.rank_check.{specs.Entries.{IsReady, place_at}, proofs.Elements.{some_inside, place_of, element_at}, proofs.Listing.{closure_low}}
use Rattle.rank_make.proofs.{Listed.{closure_then, listed_is, listed_there}, Placed.{one_number, one_at, one_name}}
use Rattle.settling.specs.{declared.certificate.SettlingLine.{SettlingLine}, declared.certificate.SettlingSet.{SettlingSet}, declared.certificate.SettlingCertificate.{SettlingCertificate}, Settles.{IsProperty}, Sets.{IsMember, IsIn, AreTogether}, Valid.{IsLineOf, Destroys, HasEachNode, HasNothingElse, EdgesFall, IsRound, SetsHold, IsBounded, IsValid}}
use Rattle.settling_make.{specs.declared.components.Components.{Components}, specs.declared.margin.Margin.{Margin}, specs.declared.sets.Sets.{Sets}, specs.Circles.{EdgesSettle, NoneEnds, MayDestroy}, specs.Components.{number_of}, specs.Fits.{margin_of, at_place}, specs.Lines.{IsLineFor}, specs.declared.why.Why.{Why}, specs.Makes.{IsMadeOf, IsMade, MadeOrReason, Makes}, specs.Margins.{Asks, IsMarginOf}, specs.Sets.{IsNameOf}, proofs.Chaining.{asked}, proofs.Circling.{edge_from, goes_round}, proofs.Placing.{node_low, set_at, place_is, member_is, set_of, leads_inside}}

module _ (p : Loaded) (sound : IsSound p) (join : EdgesJoinNodes p) (certificate : SettlingCertificate) (scan : Scanned) (found : Components) (height : ℕ → ℕ) (made : Sets) (margins : List Margin) (leads : ℕ → ℕ → Bool) (m : IsMadeOf p scan found height made margins leads certificate) where
  abbrev number : ℕ → ℕ
  number n = number_of found.numbers n

  -- a node, by its number
  pub record Stands (x : Node) (line : SettlingLine) : Type 0 where
    pub place : ℕ
    pub at : IsAt (nodes_of p) x place
    pub for : IsLineFor p leads (number place) x (at_place m.ranks place) (at_place m.steps (number place)) line

  low_of : (x : Node) (n : ℕ) → IsAt (nodes_of p) x n → n < length scan.rows
  low_of x n at = node_low p sound scan m.parts.scan_is found m.parts.found_are height made m.parts.sets x n at

  edge_of : (x y : Node) (n k : ℕ) → IsAt (nodes_of p) x n → IsAt (nodes_of p) y k → MayLead p x y → Edge scan.rows n k
  edge_of x y n k at_x at_y may = (m.parts.scan_is.edges.edges n k).1 (record { from = x; to = y; is_from = at_x; is_to = at_y; leads = may })

  component_low : (n : ℕ) → n < length scan.rows → number n < length found.sets
  component_low n low = edge_inside found.sets (number n) n ((m.parts.found_are.members n (number n)).1 (low, refl))

  -- ---- lines
  node_at : (k : ℕ) (line : SettlingLine) → slice_get certificate.lines k ≡ Some line → (x : Node) × IsAt (nodes_of p) x k × IsLineFor p leads (number k) x (at_place m.ranks k) (at_place m.steps (number k)) line
  node_at k line at =
      let low = slice_get_within certificate.lines k line at in
      let x = some_inside (nodes_of p) k (let count = m.lines.count in omega (arith, low, count)) in
      (x.0, x.1, m.lines.line k x.0 line x.1 at)

  pub stands : (x : Node) (line : SettlingLine) → IsLineOf p certificate x line → Stands x line
  stands x line is =
      let k = place_of certificate.lines line is.stands in
      let y = node_at k.0 line k.1 in
      let same : y.0 ≡ x = one_name p sound line.node y.0 x (y.2).named is.named in
      record {
        place = k.0;
        at = subst (λ (z : Node). IsAt (nodes_of p) z k.0) same y.1;
        for = subst (λ (z : Node). IsLineFor p leads (number k.0) z (at_place m.ranks k.0) (at_place m.steps (number k.0)) line) same y.2;
      }

  pub each_node : HasEachNode p certificate
  each_node x node =
      let low = slice_get_within (nodes_of p) node.0 x node.1 in
      let line = some_inside certificate.lines node.0 (let count = m.lines.count in omega (arith, low, count)) in
      (line.0, record { stands = element_at certificate.lines node.0 line.0 line.1; named = (m.lines.line node.0 x line.0 node.1 line.1).named })

  -- ---- destroy sets
  class_low : (n : ℕ) (x : Node) → IsAt (nodes_of p) x n → (d : ℕ) → leads (number n) d ≡ true → d < length p.classes
  class_low n x at d told = let may = (m.destroyed n x at d).0 told in closure_low p may.to.class d may.holds

  leads_on : (n : ℕ) (x : Node) → IsAt (nodes_of p) x n → (c d : ℕ) → leads (number n) c ≡ true → Closure p c d → leads (number n) d ≡ true
  leads_on n x at c d told closure =
      let may = (m.destroyed n x at c).0 told in
      (m.destroyed n x at d).1 (record { to = may.to; along = may.along; leads = may.leads; destruction = may.destruction; holds = closure_then p may.to.class c d may.holds closure })

  module _ (x : Node) (line : SettlingLine) (s : Stands x line) where
    set_is : (d : ℕ) → Destroys p line d ↔ MayDestroy p x d
    set_is d =
        let listed = listed_is p sound (λ e. leads (number s.place) e ≡ true) (class_low s.place x s.at) (leads_on s.place x s.at) line.destroys s.for.destroys d in
        let told = m.destroyed s.place x s.at d in
        (λ h. told.0 (listed.0 h), λ may. listed.1 (told.1 may))

  sets_hold : NoneEnds p → SetsHold p certificate
  sets_hold none = record {
    passed_on = λ x y a b d may of_a of_b destroys.
        let to = (set_is y b (stands y b of_b) d).0 destroys in
        (set_is x a (stands x a of_a) d).1 (record { to = to.to; along = y ∷ to.along; leads = (may, to.leads); destruction = to.destruction; holds = to.holds });
    closures = λ x line d destruction of_line closed.
        (set_is x line (stands x line of_line) d).1 (record { to = x; along = []; leads = refl; destruction = destruction; holds = closed });
    spared = λ x line body of_line destroys.
        let to = (set_is x line (stands x line of_line) x.class).0 destroys in
        none x (record { to = to.to; along = to.along; leads = to.leads; body = body; destruction = to.destruction; holds = to.holds });
  }

  -- ---- members of sets
  pub in_set : (k : ℕ) (x : Node) (n : ℕ) → IsAt (nodes_of p) x n → IsIn p certificate k x → place_at made.places (number n) ≡ Some k
  in_set k x n at is =
      place_is p sound scan m.parts.scan_is found m.parts.found_are height made m.parts.sets k is.set (subst (λ (sets : List SettlingSet). slice_get sets k ≡ Some is.set) m.sets is.stands) x n at is.member

  pub is_in : (k : ℕ) (x : Node) (n : ℕ) → IsAt (nodes_of p) x n → place_at made.places (number n) ≡ Some k → IsIn p certificate k x
  is_in k x n at here =
      let set = set_at p sound scan m.parts.scan_is found m.parts.found_are height made m.parts.sets (number n) k here in
      record {
        set = set.0;
        stands = subst (λ (sets : List SettlingSet). slice_get sets k ≡ Some set.0) (sym m.sets) set.1;
        member = member_is p sound scan m.parts.scan_is found m.parts.found_are height made m.parts.sets k set.0 set.1 x n at here;
      }

  nothing_else : HasNothingElse p certificate
  nothing_else = record {
    nodes = λ line there. let k = place_of certificate.lines line there in let x = node_at k.0 line k.1 in (x.0, (x.2).named);
    once = λ j k a b x at_a at_b named_a named_b.
        let first = node_at j a at_a in
        let second = node_at k b at_b in
        let one : first.0 ≡ x = one_name p sound a.node first.0 x (first.2).named named_a in
        let two : second.0 ≡ x = one_name p sound b.node second.0 x (second.2).named named_b in
        one_number p x j k (subst (λ (y : Node). IsAt (nodes_of p) y j) one first.1) (subst (λ (y : Node). IsAt (nodes_of p) y k) two second.1);
    classes = λ line there.
        let k = place_of certificate.lines line there in
        let x = node_at k.0 line k.1 in
        listed_there p sound (λ e. leads (number k.0) e ≡ true) (class_low k.0 x.0 x.1) (leads_on k.0 x.0 x.1) line.destroys (x.2).destroys;
    members = λ set name there among.
        let i = place_of certificate.sets set there in
        let at : slice_get made.sets i.0 ≡ Some set = subst (λ (sets : List SettlingSet). slice_get sets i.0 ≡ Some set) m.sets i.1 in
        let k = m.parts.sets.each i.0 (slice_get_within made.sets i.0 set at) in
        let own = m.parts.sets.is k.0 i.0 set k.1 at in
        let held = place_of set.members name among in
        let pair = zip_right (IsNameOf p) (row found.sets k.0) set.members own.names held.0 name held.1 in
        ((pair.2).node, (pair.2).named);
    apart = λ j k x one two.
        let n = one.member.named.node in
        same_Some j k (sym (in_set j x n.0 n.1 one) ∙ in_set k x n.0 n.1 two);
  }

  -- ---- edges within components
  together : (x y : Node) (n k : ℕ) → IsAt (nodes_of p) x n → IsAt (nodes_of p) y k → Edge scan.rows n k → number n ≡ number k → AreTogether p certificate x y
  together x y n k at_x at_y edge same =
      let i = set_of p sound scan m.parts.scan_is found m.parts.found_are height made m.parts.sets n k edge same in
      (i.0, is_in i.0 x n at_x i.1, is_in i.0 y k at_y (ap (place_at made.places) (sym same) ∙ i.1))

  pub one_component : (x y : Node) (n k : ℕ) → IsAt (nodes_of p) x n → IsAt (nodes_of p) y k → AreTogether p certificate x y → number n ≡ number k
  one_component x y n k at_x at_y both = m.parts.sets.apart (number n) (number k) both.0 (in_set both.0 x n at_x both.1) (in_set both.0 y k at_y both.2)

  not_property : (y : Node) (k : ℕ) → IsAt (nodes_of p) y k → (¬ IsProperty y) → (z : Node) → IsAt scan.nodes z k → ¬ IsProperty z
  not_property y k at_y none z at =
      let there : IsAt (nodes_of p) z k = subst (λ (ns : List Node). IsAt ns z k) m.parts.scan_is.nodes at in
      subst (λ (w : Node). ¬ IsProperty w) (one_at p y z k at_y there) none

  -- along an edge to another component
  leaves : (n k : ℕ) → Edge scan.rows n k → number n ≢ number k → at_place m.steps (number k) + (margin_of margins (number n)).cost ≤ at_place m.steps (number n)
  leaves n k edge other =
      let low = edge_inside scan.rows n k edge in
      let among = (m.parts.found_are.members n (number n)).1 (low, refl) in
      m.steps_are.fit.leaves (number n) (number k) ((m.outer_are.each (number n) (component_low n low)).each n (number k) among (record { to = k; edge = edge; is = refl; other = λ e. other (sym e) }))

  edges_fall : EdgesSettle p → EdgesFall p certificate
  edges_fall settle = record {
    within = λ x y both may.
        let n = (join x y may).0 in
        let k = (join x y may).1 in
        let edge = edge_of x y n.0 k.0 n.1 k.1 may in
        let same = one_component x y n.0 k.0 n.1 k.1 both in
        (settle x y (goes_round p scan m.parts.scan_is found m.parts.found_are n.0 k.0 x y edge same n.1 k.1)).1;
    falls_within = λ x y a b may of_a of_b both none.
        let n = stands x a of_a in
        let k = stands y b of_b in
        let edge = edge_of x y n.place k.place n.at k.at may in
        let same = one_component x y n.place k.place n.at k.at both in
        let low = m.ranks_are.fit.falls n.place k.place edge (inr (record { inside = same; silent = not_property y k.place k.at none })) in
        let first = n.for.ranked in
        let second = k.for.ranked in
        omega (arith, low, first, second);
    falls = λ x y a b may of_a of_b apart.
        let n = stands x a of_a in
        let k = stands y b of_b in
        let edge = edge_of x y n.place k.place n.at k.at may in
        let other : number n.place ≢ number k.place = λ same. apart (together x y n.place k.place n.at k.at edge same) in
        let low = m.ranks_are.fit.falls n.place k.place edge (inl other) in
        let first = n.for.ranked in
        let second = k.for.ranked in
        omega (arith, low, first, second);
    steps = λ x y a b may of_a of_b.
        let n = stands x a of_a in
        let k = stands y b of_b in
        let edge = edge_of x y n.place k.place n.at k.at may in
        let first = n.for.stepped in
        let second = k.for.stepped in
        elim (cases_eq (number n.place) (number k.place)) [
          | inl same ↦ let e = ap (at_place m.steps) same in omega (arith, e, first, second)
          | inr other ↦ let low = leaves n.place k.place edge other in omega (arith, low, first, second)
        ];
  }

  -- ---- rounds
  module _ (settle : EdgesSettle p) (set : SettlingSet) (i : ℕ) (at_set : slice_get certificate.sets i ≡ Some set) where
    at_made : slice_get made.sets i ≡ Some set
    at_made = subst (λ (sets : List SettlingSet). slice_get sets i ≡ Some set) m.sets at_set

    component : (k : ℕ) × (place_at made.places k ≡ Some i)
    component = m.parts.sets.each i (slice_get_within made.sets i set at_made)

    -- it has a node
    some_node : (n : ℕ) × (n < length scan.rows) × (number n ≡ component.0)
    some_node =
        let met = (m.parts.sets.is component.0 i set component.1 at_made).round.met in
        let there = (m.parts.found_are.members met.0 component.0).0 met.1 in
        (met.0, there.0, there.1)

    component_inside : component.0 < length found.sets
    component_inside = let n = some_node in let low = component_low n.0 n.1 in let same = n.2 in omega (arith, low, same)

    asks : IsMarginOf p set (margin_of margins component.0)
    asks =
        let told = asked p join scan m.parts.scan_is found m.parts.found_are height m.parts.heights m.parts.low made m.parts.sets margins m.parts.margins_are component.0 component_inside in
        let here : Asks p made.sets (Some i) (margin_of margins component.0) = subst (λ (place : Option ℕ). Asks p made.sets place (margin_of margins component.0)) component.1 told in
        here set at_made

    round_some : 0 < set.round
    round_some = let met = (m.parts.sets.is component.0 i set component.1 at_made).round.met in let high = met.2 in omega (arith, high)

    -- a member is of its component
    member_place : (x : Node) (n : ℕ) → IsAt (nodes_of p) x n → IsMember p set x → number n ≡ component.0
    member_place x n at member =
        m.parts.sets.apart (number n) component.0 i (place_is p sound scan m.parts.scan_is found m.parts.found_are height made m.parts.sets i set at_made x n at member) component.1

    member_at : (x : Node) (n : ℕ) → IsAt (nodes_of p) x n → number n ≡ component.0 → IsMember p set x
    member_at x n at here = member_is p sound scan m.parts.scan_is found m.parts.found_are height made m.parts.sets i set at_made x n at (ap (place_at made.places) here ∙ component.1)

    margin_at : (n : ℕ) → number n ≡ component.0 → margin_of margins (number n) ≡ margin_of margins component.0
    margin_at n here = ap (margin_of margins) here

    is_round : IsRound p certificate set
    is_round = record {
      carries = λ x member.
          let n = member.named.node in
          let here = member_place x n.0 n.1 member in
          let to = leads_inside p sound scan m.parts.scan_is found m.parts.found_are height made m.parts.sets n.0 i (low_of x n.0 n.1) (ap (place_at made.places) here ∙ component.1) in
          let y = edge_from p scan m.parts.scan_is n.0 to.0 x to.1 n.1 in
          (settle x y.0 (goes_round p scan m.parts.scan_is found m.parts.found_are n.0 to.0 x y.0 to.1 to.2 n.1 y.1)).0;
      above = λ x a member of_a.
          let n = stands x a of_a in
          let here = member_place x n.place n.at member in
          let least = m.ranks_are.fit.above n.place (low_of x n.place n.at) in
          let e = ap (λ (margin : Margin). margin.least) (margin_at n.place here) in
          let one = asks.least in
          let rank = n.for.ranked in
          omega (arith, least, e, one, rank);
      close = λ x y a b member_x member_y of_a of_b.
          let n = stands x a of_a in
          let k = stands y b of_b in
          let here = member_place x n.place n.at member_x in
          let there = member_place y k.place k.at member_y in
          let near = m.ranks_are.fit.close n.place k.place (low_of x n.place n.at) (low_of y k.place k.at) (here ∙ sym there) in
          let e = ap (λ (margin : Margin). margin.round) (margin_at n.place here) in
          let round = asks.round in
          let first = n.for.ranked in
          let second = k.for.ranked in
          omega (arith, near, e, round, first, second);
      one_step = λ x y a b member_x member_y of_a of_b.
          let n = stands x a of_a in
          let k = stands y b of_b in
          let here = member_place x n.place n.at member_x in
          let there = member_place y k.place k.at member_y in
          n.for.stepped ∙ ap (at_place m.steps) (here ∙ sym there) ∙ sym k.for.stepped;
      most = asks.most;
      at_most = asks.at_most;
      some = mul-pos round_some asks.some;
      enough = λ x a member of_a.
          let n = stands x a of_a in
          let here = member_place x n.place n.at member in
          let low = component_inside in
          let count = m.parts.margins_are.count in
          let enough = m.steps_are.fit.enough component.0 (omega (arith, low, count)) in
          let e = ap (at_place m.steps) here in
          let cost = asks.cost in
          let step = n.for.stepped in
          omega (arith, enough, e, cost, step);
      leaves = λ x y a b may member other of_a of_b.
          let n = stands x a of_a in
          let k = stands y b of_b in
          let here = member_place x n.place n.at member in
          let edge = edge_of x y n.place k.place n.at k.at may in
          let apart : number n.place ≢ number k.place = λ same. other (member_at y k.place k.at (sym same ∙ here)) in
          let falls = leaves n.place k.place edge apart in
          let e = ap (λ (margin : Margin). margin.cost) (margin_at n.place here) in
          let cost = asks.cost in
          let first = n.for.stepped in
          let second = k.for.stepped in
          omega (arith, falls, e, cost, first, second);
    }

  -- ---- the bound and the step
  bounded : IsBounded certificate
  bounded = record {
    ranks = λ line there.
        let k = place_of certificate.lines line there in
        let x = node_at k.0 line k.1 in
        let low = low_of x.0 k.0 x.1 in
        let count = m.ranks_are.count in
        let above = m.bound.above k.0 (omega (arith, low, count)) in
        let rank = (x.2).ranked in
        omega (arith, above, rank);
    steps = λ line there.
        let k = place_of certificate.lines line there in
        let x = node_at k.0 line k.1 in
        let low = component_low k.0 (low_of x.0 k.0 x.1) in
        let count = m.steps_are.count in
        let margins_count = m.parts.margins_are.count in
        let above = m.step.above (number k.0) (omega (arith, low, count, margins_count)) in
        let step = (x.2).stepped in
        omega (arith, above, step);
    bound = elim m.bound.least [
      | inl none ↦ omega (arith, none)
      | inr at ↦ let low = m.ranks_are.low at.0 in let high = at.2 in omega (arith, low, high)
    ];
  }

  pub valid_of : IsReady p → EdgesSettle p → NoneEnds p → IsValid p certificate
  valid_of ready settle none = record {
    wires = ready.wires;
    typed = ready.typed;
    each_node = each_node;
    nothing_else = nothing_else;
    edges = edges_fall settle;
    rounds = λ set there. let i = place_of certificate.sets set there in is_round settle set i.0 i.1;
    sets = sets_hold none;
    bounded = bounded;
  }

pub made_valid : (p : Loaded) → IsSound p → EdgesJoinNodes p → (certificate : SettlingCertificate) → IsReady p → EdgesSettle p → NoneEnds p → IsMade p certificate → IsValid p certificate
made_valid p sound join certificate ready settle none is = valid_of p sound join certificate is.scan is.found is.height is.sets is.margins is.leads is.of ready settle none

pub makes_of : (p : Loaded) → IsSound p → EdgesJoinNodes p → (result : Result SettlingCertificate Why) → IsReady p → EdgesSettle p → NoneEnds p → MadeOrReason p result → Makes p result
makes_of p sound join (Ok certificate) ready settle none is = (made_valid p sound join certificate ready settle none is, is)
makes_of p sound join (Err why) ready settle none reason = reason ready
