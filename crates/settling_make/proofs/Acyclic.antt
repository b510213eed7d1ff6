-- A program whose edges lead back to no node: each node is a component of its own, and none is a set.
use Rattle.std.proofs.Common.{◌≡◌, ◌≢◌, ◌⊎◌, inl, inr, ◌↔◌, ℕ, ◌+◌, ◌*◌, ◌%◌, ◌<◌, ◌≤◌, Bool, true, List, [], ◌∷◌, ◌++◌, length, map, replicate, get_or, Option, Some, None, refl, sym, ap, ◌∙◌, subst, arith}
use Rattle.std.specs.List.{Contains, range_with_len}
use Rattle.std.proofs.Math.Nat.{add-mul, mul-le-mul_right, mod-lt}
use Rattle.std.proofs.lemmas.Bool.{cases_eq, cases_lt}
use Rattle.std.proofs.lemmas.List.{length-replicate, length-map, get_or-replicate, get_or-map, get_or_past, get_or_default, length_push, get_or_append_left, get_or_push}
use Rattle.std.proofs.lemmas.List.Elements.{Contains-push, Contains-push_cases}
use Rattle.std.proofs.lemmas.List.FromFn.{get_or-map-range_with_len, length-map-range_with_len}
use Rattle.std.proofs.lemmas.Nat.{mod-mul-add, same_from_place}
use Rattle.std.proofs.lemmas.Option.{none-some, get_or_from_slice_get, slice_get_within, slice_get-get_or}
use Rattle.meta_model.specs.Loaded.{Loaded}
use Rattle.effect_scan.proofs.Adding.{no_members}
use Rattle.effect_scan.specs.{declared.node.Node.{Node}, Nodes.{nodes_of, IsAt}, Rows.{row, Edge}, Laws.{EdgesJoinNodes}, Scans.{Scanned, IsScan}}
use Rattle.rank_graph.{specs.Walks.{LeadsBy}, proofs.Driving.{edge_inside}}
use Rattle.rank_check.{specs.Entries.{place_at}, specs.Valid.{most_bound}, proofs.Conditions.{edges_inside}}
use Rattle.rank_make.{specs.Solved.{IsSolved, AreLow, AreItems}, proofs.Numbers.{edge_of, lower, own_has, own_is, rank_falls}, proofs.Placed.{one_number}}
use Rattle.settling.specs.declared.certificate.SettlingCertificate.{SettlingCertificate}
use Rattle.settling_make.{specs.declared.components.Components.{Components}, specs.declared.margin.Margin.{Margin}, specs.declared.sets.Sets.{Sets}, specs.Circles.{LeadsRound, EdgesSettle, IsSilentEdge, AreHeights, MayDestroy, AreDestroyed, NoneEnds}, specs.Collected.{LeadsOut, AreCollected}, specs.Components.{number_of, AreComponents}, specs.Fits.{no_margin, margin_of, at_place, AreRanksAt, FitRanks, AreLeastRanks, AreLeastSteps}, specs.Inside.{AreThemselves}, specs.Lines.{AreLinesFor}, specs.Makes.{IsJustAbove, IsMadeOf, IsMadeAlone}, specs.Margins.{Asks, AreMarginsOf}, specs.Sets.{HasInside, AreSetsOf}, proofs.Circling.{walk_between}}

-- ---- ranks, one after another
pub ranks_none : (rank : ℕ → ℕ) (ranks : List ℕ) → ranks ≡ [] → AreRanksAt rank 0 ranks
ranks_none rank ranks empty = record { counted = ap (λ (l : List ℕ). length l) empty; each = λ a low. absurd (omega (arith, low)) }

pub ranks_more : (rank : ℕ → ℕ) (end : ℕ) (ranks after : List ℕ) (r : ℕ) → after ≡ ranks ++ r ∷ [] → r ≡ rank end → AreRanksAt rank end ranks → AreRanksAt rank (end + 1) after
ranks_more rank end ranks after r pushed is to = record {
  counted = let sum = length_push ranks r in let e = ap (λ (l : List ℕ). length l) pushed in let c = to.counted in omega (arith, sum, e, c);
  each = λ a low.
      elim (cases_eq a end) [
        | inl same ↦ ap (λ (l : List ℕ). get_or l a 0) pushed ∙ get_or_push ranks r 0 a (to.counted ∙ sym same) ∙ is ∙ ap rank (sym same)
        | inr other ↦ ap (λ (l : List ℕ). get_or l a 0) pushed ∙ get_or_append_left ranks (r ∷ []) 0 a (let c = to.counted in omega (arith, c, low, other)) ∙ to.each a (omega (arith, low, other))
      ];
}

-- ---- lists
-- the numbers, where they are looked for
only_if : {A : Type 0} → A ⊎ (¬ A) → List ℕ → List ℕ
only_if (inl is) ns = ns
only_if (inr away) ns = []

only_from : {A : Type 0} (c : A ⊎ (¬ A)) (ns : List ℕ) (a : ℕ) → Contains (only_if c ns) a → A × Contains ns a
unfolding only_if
only_from (inl is) ns a h = (is, h)
only_from (inr away) ns a h = absurd (no_members a h)

only_to : {A : Type 0} (c : A ⊎ (¬ A)) (ns : List ℕ) (a : ℕ) → A → Contains ns a → Contains (only_if c ns) a
unfolding only_if
only_to (inl is) ns a holds h = h
only_to (inr away) ns a holds h = absurd (away holds)

one_from : (n a : ℕ) → Contains (n ∷ []) a → n ≡ a
one_from n a h = elim (Contains-push_cases [] n a h) [ inl none ↦ absurd (no_members a none) | inr same ↦ same ]

mapped_from : (f : ℕ → ℕ) (ns : List ℕ) (j : ℕ) → Contains (map f ns) j → (a : ℕ) × Contains ns a × (f a ≡ j)
mapped_from f ns j h =
    let low : h.0 < length ns = (let c = length-map ns f in let l = h.1 in omega (arith, c, l)) in
    (get_or ns h.0 0, (h.0, low, get_or_default ns h.0 (get_or ns h.0 0) 0 low), sym (get_or-map f ns h.0 0 j low) ∙ h.2)

mapped_to : (f : ℕ → ℕ) (ns : List ℕ) (a : ℕ) → Contains ns a → Contains (map f ns) (f a)
mapped_to f ns a h =
    (h.0, (let c = length-map ns f in let l = h.1 in omega (arith, c, l)), get_or-map f ns h.0 a (f a) h.1 ∙ ap f h.2)

pub own_at : (own : List ℕ) (count : ℕ) → AreThemselves count own → (n : ℕ) → n < count → number_of own n ≡ n
unfolding number_of
own_at own count themselves n low = themselves.each n (get_or own n 0) (slice_get-get_or own n 0 (let c = themselves.counted in omega (arith, c, low)))

zero_at : (count k : ℕ) → at_place (replicate count 0) k ≡ 0
zero_at count k =
    elim (cases_lt k count) [
      | inl low ↦ get_or-replicate count k 0 0 low
      | inr past ↦ get_or_past (replicate count 0) k 0 (let c = length-replicate {A = ℕ} count 0 in omega (arith, past, c))
    ]

module _ (p : Loaded) (join : EdgesJoinNodes p) (scan : Scanned) (is : IsScan p scan) (rank : ℕ → ℕ) (leads : ℕ → ℕ → Bool) (solved : IsSolved scan rank leads) (ranks_low : AreLow (length (nodes_of p)) rank) where
  abbrev count : ℕ
  count = length scan.rows

  falls : (a b : ℕ) → Edge scan.rows a b → rank b < rank a
  falls a b edge = rank_falls p scan is rank leads solved a b edge

  low_of : (x : Node) (n : ℕ) → IsAt (nodes_of p) x n → n < count
  low_of x n at = let inside = slice_get_within (nodes_of p) n x at in let nodes = is.edges.count in omega (arith, inside, nodes)

  inside : (a b : ℕ) → Edge scan.rows a b → b < count
  inside a b edge = edges_inside p scan is (length scan.rows) is.edges.count a b edge

  -- ---- components: by the rank of a node, then by its place
  number : ℕ → ℕ
  number a = rank a * count + a

  abbrev end : ℕ
  end = most_bound * count

  number_below : (a b : ℕ) → b < count → rank b < rank a → number b < number a
  unfolding number
  number_below a b low less =
      let next : rank b + 1 ≤ rank a = omega (arith, less) in
      let most : (rank b + 1) * count ≤ rank a * count = mul-le-mul_right count next in
      let sum = add-mul (rank b) 1 count in
      omega (arith, low, most, sum)

  number_low : (a : ℕ) → a < count → number a < end
  unfolding number
  number_low a low =
      let small = ranks_low a (let nodes = is.edges.count in omega (arith, low, nodes)) in
      let next : rank a + 1 ≤ most_bound = omega (arith, small) in
      let most : (rank a + 1) * count ≤ most_bound * count = mul-le-mul_right count next in
      let sum = add-mul (rank a) 1 count in
      omega (arith, low, most, sum)

  one_node : (a b : ℕ) → a < count → b < count → number a ≡ number b → a ≡ b
  unfolding number
  one_node a b low high same = (same_from_place (rank a) a (rank b) b count low high same).1

  -- the node of a component
  node_of : ℕ → ℕ
  node_of k = k % count

  node_is : (a : ℕ) → a < count → node_of (number a) ≡ a
  unfolding number node_of
  node_is a low = mod-mul-add (rank a) count a low

  members_of : ℕ → List ℕ
  members_of k = only_if (cases_eq (number (node_of k)) k) (node_of k ∷ [])

  numbers : List ℕ
  numbers = map number (range_with_len 0 count)

  number_is : (a : ℕ) → a < count → number_of numbers a ≡ number a
  unfolding number_of numbers
  number_is a low = get_or-map-range_with_len number 0 count a a 0 low (omega arith)

  numbers_count : length numbers ≡ count
  unfolding numbers
  numbers_count = length-map-range_with_len number 0 count

  sets : List (List ℕ)
  sets = map members_of (range_with_len 0 end)

  set_is : (k : ℕ) → k < end → row sets k ≡ members_of k
  unfolding row sets
  set_is k low = get_or-map-range_with_len members_of 0 end k k [] low (omega arith)

  sets_count : length sets ≡ end
  unfolding sets
  sets_count = length-map-range_with_len members_of 0 end

  node_low : (k : ℕ) → k < end → node_of k < count
  unfolding node_of
  node_low k low = let some : 0 < count = omega (arith, low) in mod-lt k some

  member_from : (k a : ℕ) → Edge sets k a → (a < count) × (number a ≡ k)
  unfolding members_of
  member_from k a edge =
      let low : k < end = (let c = sets_count in let l = edge_inside sets k a edge in omega (arith, c, l)) in
      let h = only_from (cases_eq (number (node_of k)) k) (node_of k ∷ []) a (subst (λ (l : List ℕ). Contains l a) (set_is k low) edge) in
      let same = one_from (node_of k) a h.1 in
      (subst (λ (n : ℕ). n < count) same (node_low k low), ap number (sym same) ∙ h.0)

  member_to : (a : ℕ) → a < count → Edge sets (number a) a
  unfolding members_of
  member_to a low =
      let same = node_is a low in
      let held = only_to (cases_eq (number (node_of (number a))) (number a)) (node_of (number a) ∷ []) (node_of (number a)) (ap number same) (Contains-push [] (node_of (number a))) in
      subst (λ (l : List ℕ). Contains l a) (sym (set_is (number a) (number_low a low))) (subst (λ (n : ℕ). Contains (members_of (number a)) n) same held)

  abbrev found : Components
  found = record { numbers = numbers; sets = sets }

  are_components : AreComponents scan.rows found
  are_components = record {
    count = numbers_count;
    falls = λ a b edge.
        let low = edge_inside scan.rows a b edge in
        let high = inside a b edge in
        let down = number_below a b high (falls a b edge) in
        let from = number_is a low in
        let to = number_is b high in
        omega (arith, down, from, to);
    together = λ a b low high same. record { along = []; leads = one_node a b low high (sym (number_is a low) ∙ same ∙ number_is b high) };
    members = λ a k. (
      λ edge. let from = member_from k a edge in (from.0, number_is a from.0 ∙ from.1),
      λ at. subst (λ (j : ℕ). Edge sets j a) (sym (number_is a at.0) ∙ at.1) (member_to a at.0),
    );
  }

  -- no edge leads from a node to its own component
  apart : (a b : ℕ) → Edge scan.rows a b → number_of numbers a ≢ number_of numbers b
  apart a b edge same =
      let low = edge_inside scan.rows a b edge in
      let high = inside a b edge in
      let down = number_below a b high (falls a b edge) in
      let from = number_is a low in
      let to = number_is b high in
      omega (arith, down, from, to, same)

  none_inside : (k : ℕ) → ¬ HasInside scan.rows numbers k (row sets k)
  none_inside k has =
      let from = (are_components.members has.from k).0 has.among in
      apart has.from has.to has.edge (from.1 ∙ sym has.inside)

  -- ---- circles
  walk_down : (a : ℕ) (ws : List ℕ) (b : ℕ) → LeadsBy (Edge scan.rows) a ws b → rank b ≤ rank a
  walk_down a [] b walk = let same = ap rank walk in omega (arith, same)
  walk_down a (w ∷ ws) b walk = let first = falls a w walk.0 in let rest = walk_down w ws b walk.1 in omega (arith, first, rest)

  no_round : (x y : Node) → ¬ LeadsRound p x y
  no_round x y round =
      let n = (join x y round.leads).0 in
      let m = (join x y round.leads).1 in
      let edge = edge_of p scan is x y n.0 m.0 n.1 m.1 round.leads in
      let back = lower p scan is join y round.along x m.0 round.back m.1 in
      let same : back.1 ≡ n.0 = one_number p x back.1 n.0 back.3 n.1 in
      let down = falls n.0 m.0 edge in
      let up = walk_down m.0 back.0 back.1 back.2 in
      let e = ap rank same in
      omega (arith, down, up, e)

  edges_settle : EdgesSettle p
  edges_settle x y round = absurd (no_round x y round)

  abbrev flat : ℕ → ℕ
  flat a = 0

  are_heights : AreHeights p flat
  are_heights n x at = record { chain = ([], x, refl, refl); longest = λ along to walk. short along to walk }
    where
      short : (along : List Node) (to : Node) → LeadsBy (IsSilentEdge p) x along to → length along ≤ 0
      short [] to walk = omega arith
      short (z ∷ zs) to walk = absurd (no_round x z walk.0.round)

  -- ---- no component is a set
  places : List (Option ℕ)
  places = replicate end None

  place_none : (k : ℕ) → place_at places k ≡ None
  unfolding places
  place_none k =
      elim (cases_lt k end) [
        | inl low ↦ get_or-replicate end k None None low
        | inr past ↦ get_or_past (replicate end None) k None (let c = length-replicate {A = Option ℕ} end None in omega (arith, past, c))
      ]

  no_place : (k i : ℕ) → ¬ (place_at places k ≡ Some i)
  no_place k i at = none-some i (sym (place_none k) ∙ at)

  places_count : length places ≡ end
  unfolding places
  places_count = length-replicate end None

  abbrev made : Sets
  made = record { sets = []; places = places }

  are_sets : AreSetsOf p scan.rows found flat made
  are_sets = record {
    count = places_count ∙ sym sets_count;
    none = λ k low at. none_inside k;
    some = λ k i at. absurd (no_place k i at);
    is = λ k i set at. absurd (no_place k i at);
    inside = λ k i at. absurd (no_place k i at);
    each = λ i low. absurd (omega (arith, low));
    apart = λ j k i at. absurd (no_place j i at);
  }

  margins : List Margin
  margins = replicate end no_margin

  margins_count : length margins ≡ end
  unfolding margins
  margins_count = length-replicate end no_margin

  margin_none : (k : ℕ) → margin_of margins k ≡ no_margin
  unfolding margins
  margin_none k =
      elim (cases_lt k end) [
        | inl low ↦ get_or-replicate end k no_margin no_margin low
        | inr past ↦ get_or_past (replicate end no_margin) k no_margin (let c = length-replicate end no_margin in omega (arith, past, c))
      ]

  are_margins : AreMarginsOf p found made margins
  are_margins = record {
    count = margins_count ∙ sym sets_count;
    each = λ k margin at.
        subst (λ (place : Option ℕ). Asks p [] place margin) (sym (place_none k)) (sym (get_or_from_slice_get margins k margin no_margin at) ∙ margin_none k);
  }

  -- ---- what may be destroyed
  abbrev leads_by : ℕ → ℕ → Bool
  leads_by k d = leads (node_of k) d

  told : (n : ℕ) (x : Node) → IsAt (nodes_of p) x n → (d : ℕ) → (leads n d ≡ true) ↔ MayDestroy p x d
  told n x at_x d = (
    λ h.
        let to = (solved.classes n d).0 h in
        let last = own_is p scan is to.to d to.has in
        let walk = walk_between p scan is n to.along to.to x last.0 to.leads at_x last.1 in
        record { to = last.0; along = walk.0; leads = walk.1; destruction = last.2; holds = last.3 },
    λ may.
        let by = lower p scan is join x may.along may.to n may.leads at_x in
        (solved.classes n d).1 (record { along = by.0; to = by.1; leads = by.2; has = own_has p scan is by.1 may.to d by.3 may.destruction may.holds }),
  )

  node_again : (n : ℕ) → n < count → node_of (number_of numbers n) ≡ n
  node_again n low = ap node_of (number_is n low) ∙ node_is n low

  are_destroyed : AreDestroyed p numbers leads_by
  are_destroyed n x at_x d = subst (λ (m : ℕ). (leads m d ≡ true) ↔ MayDestroy p x d) (sym (node_again n (low_of x n at_x))) (told n x at_x d)

  -- ---- ranks and steps
  chain_low : (other : ℕ → ℕ) → FitRanks scan.nodes scan.rows numbers margins other → (a : ℕ) (ws : List ℕ) (b : ℕ) → LeadsBy (Edge scan.rows) a ws b → length ws ≤ other a
  chain_low other fit a [] b walk = omega arith
  chain_low other fit a (w ∷ ws) b walk =
      let down = fit.falls a w walk.0 (inl (apart a w walk.0)) in
      let rest = chain_low other fit w ws b walk.1 in
      omega (arith, down, rest)

  module _ (ranks : List ℕ) (at : AreRanksAt rank count ranks) where
    are_ranks : AreLeastRanks scan.nodes scan.rows numbers margins ranks
    are_ranks = record {
      count = at.counted;
      fit = record {
        falls = λ a b edge less.
            let from = at.each a (edge_inside scan.rows a b edge) in
            let to = at.each b (inside a b edge) in
            let down = falls a b edge in
            omega (arith, from, to, down);
        above = λ a low. let e = ap (λ (m : Margin). m.least) (margin_none (number_of numbers a)) in omega (arith, e);
        close = λ a b low high same.
            let one = ap (at_place ranks) (one_node a b low high (sym (number_is a low) ∙ same ∙ number_is b high)) in
            let e = ap (λ (m : Margin). m.round) (margin_none (number_of numbers a)) in
            omega (arith, one, e);
      };
      low = λ a.
          elim (cases_lt a count) [
            | inl low ↦ let e = at.each a low in let small = ranks_low a (let nodes = is.edges.count in omega (arith, low, nodes)) in omega (arith, e, small)
            | inr past ↦ let e = get_or_past ranks a 0 (let c = at.counted in omega (arith, c, past)) in omega (arith, e)
          ];
      least = λ other fit a low.
          let chain = solved.ranks.chains a in
          let most = chain_low other fit a chain.0 chain.1 chain.2 in
          let long = chain.3 in
          let e = at.each a low in
          omega (arith, most, long, e);
    }

    steps : List ℕ
    steps = replicate end 0

    step_none : (k : ℕ) → at_place steps k ≡ 0
    unfolding steps
    step_none k = zero_at end k

    steps_count : length steps ≡ end
    unfolding steps
    steps_count = length-replicate end 0

    -- to which others the edges of a component lead
    outer_of : ℕ → List ℕ
    outer_of k = only_if (cases_eq (number (node_of k)) k) (map (number_of numbers) (row scan.rows (node_of k)))

    outer : List (List ℕ)
    outer = map outer_of (range_with_len 0 end)

    outer_is : (k : ℕ) → k < end → row outer k ≡ outer_of k
    unfolding row outer
    outer_is k low = get_or-map-range_with_len outer_of 0 end k k [] low (omega arith)

    outer_count : length outer ≡ end
    unfolding outer
    outer_count = length-map-range_with_len outer_of 0 end

    are_outer : AreCollected (LeadsOut scan.rows numbers) sets outer
    unfolding outer_of
    are_outer = record {
      count = outer_count ∙ sym sets_count;
      each = λ k inside_sets.
          let low : k < end = (let c = sets_count in omega (arith, c, inside_sets)) in
          record {
            given = λ j h.
                let held = only_from (cases_eq (number (node_of k)) k) (map (number_of numbers) (row scan.rows (node_of k))) j (subst (λ (l : List ℕ). Contains l j) (outer_is k low) h) in
                let to = mapped_from (number_of numbers) (row scan.rows (node_of k)) j held.1 in
                let here = node_low k low in (
                  node_of k,
                  subst (λ (i : ℕ). Edge sets i (node_of k)) held.0 (member_to (node_of k) here),
                  record { to = to.0; edge = to.1; is = to.2; other = λ e. apart (node_of k) to.0 to.1 (number_is (node_of k) here ∙ held.0 ∙ sym e ∙ sym to.2) },
                );
            each = λ a j among out.
                let from = member_from k a among in
                let same : node_of k ≡ a = ap node_of (sym from.1) ∙ node_is a from.0 in
                let edge : Edge scan.rows (node_of k) out.to = subst (λ (n : ℕ). Edge scan.rows n out.to) (sym same) out.edge in
                let held = only_to (cases_eq (number (node_of k)) k) (map (number_of numbers) (row scan.rows (node_of k))) (number_of numbers out.to) (ap number same ∙ from.1) (mapped_to (number_of numbers) (row scan.rows (node_of k)) out.to edge) in
                subst (λ (i : ℕ). Contains (row outer k) i) out.is (subst (λ (l : List ℕ). Contains l (number_of numbers out.to)) (sym (outer_is k low)) held);
          };
    }

    are_steps : AreLeastSteps outer margins steps
    are_steps = record {
      count = steps_count ∙ sym margins_count;
      fit = record {
        leaves = λ k j edge. let a = step_none k in let b = step_none j in let e = ap (λ (m : Margin). m.cost) (margin_none k) in omega (arith, a, b, e);
        enough = λ k low. let e = ap (λ (m : Margin). m.cost) (margin_none k) in omega (arith, e);
      };
      low = λ k. let e = step_none k in omega (arith, e);
      least = λ other fit k low. let e = step_none k in omega (arith, e);
    }

    -- ---- the certificate
    module _ (own : List ℕ) (themselves : AreThemselves (length scan.nodes) own) (certificate : SettlingCertificate) (lines : AreLinesFor p own ranks (replicate (length scan.nodes) 0) leads certificate.lines) (bound : IsJustAbove ranks certificate.bound) (flat_step : certificate.step ≡ 0) (no_sets : certificate.sets ≡ []) where
      are_lines : AreLinesFor p numbers ranks steps leads_by certificate.lines
      are_lines = record {
        count = lines.count;
        line = λ n x line at_x stands.
            let one = lines.line n x line at_x stands in
            let same : number_of own n ≡ node_of (number_of numbers n) = own_at own (length scan.nodes) themselves n (in_nodes x n at_x) ∙ sym (node_again n (low_of x n at_x)) in
            record {
              named = one.named;
              ranked = one.ranked;
              stepped = one.stepped ∙ zero_at (length scan.nodes) (number_of own n) ∙ sym (step_none (number_of numbers n));
              destroys = subst (λ (k : ℕ). AreItems p (λ d. leads k d ≡ true) (length p.classes) line.destroys) same one.destroys;
            };
      }
        where
          in_nodes : (x : Node) (n : ℕ) → IsAt (nodes_of p) x n → n < length scan.nodes
          in_nodes x n at_x = slice_get_within scan.nodes n x (subst (λ (ns : List Node). IsAt ns x n) (sym is.nodes) at_x)

      made_of : IsMadeOf p scan found flat made margins leads_by certificate
      made_of = record {
        parts = record { scan_is = is; found_are = are_components; heights = are_heights; low = λ n low. omega arith; sets = are_sets; margins_are = are_margins };
        destroyed = are_destroyed;
        ranks = ranks;
        ranks_are = are_ranks;
        outer = outer;
        outer_are = are_outer;
        steps = steps;
        steps_are = are_steps;
        sets = no_sets;
        lines = are_lines;
        bound = bound;
        step = record { above = λ a low. let e = step_none a in omega (arith, e, flat_step); met = inl flat_step };
      }

      pub made_alone : NoneEnds p → IsMadeAlone p certificate
      made_alone none = record {
        made = record { scan = scan; found = found; height = flat; sets = made; margins = margins; leads = leads_by; of = made_of };
        settle = edges_settle;
        spared = none;
      }

  -- of nodes whose numbers are their own
  pub destroyed_at : (own : List ℕ) → AreThemselves (length scan.nodes) own → AreDestroyed p own leads
  destroyed_at own themselves n x at_x d =
      let low = slice_get_within scan.nodes n x (subst (λ (ns : List Node). IsAt ns x n) (sym is.nodes) at_x) in
      subst (λ (m : ℕ). (leads m d ≡ true) ↔ MayDestroy p x d) (sym (own_at own (length scan.nodes) themselves n low)) (told n x at_x d)
