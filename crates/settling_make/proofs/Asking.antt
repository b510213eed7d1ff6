-- What the components of a program ask, from what the nodes of their sets have in common.
use Rattle.std.{proofs.Common.{◌≡◌, inl, inr, ℕ, ◌+◌, ◌*◌, ◌<◌, List, [], ◌∷◌, ◌++◌, length, get_or, slice_get, unwrap_or, Option, Some, None, sym, ap, ◌∙◌, subst, arith}, proofs.lemmas.List.{length_push}, proofs.lemmas.Option.{slice_get_within, get_or_from_slice_get, unwrap_or-slice_get, none-some, same_Some}}
use Rattle.meta_model.specs.{Loaded.{Loaded}, Sound.{IsSound}}
use Rattle.effect_scan.specs.{declared.node.Node.{Node}, declared.node.Member.TheVariants.{Property}, Nodes.{node, nodes_of, IsAt}, Scans.{Scanned, IsScan}}
use Rattle.rank_check.{specs.Entries.{place_at}, proofs.Elements.{some_inside}}
use Rattle.rank_make.proofs.Placed.{one_at}
use Rattle.settling.{specs.declared.certificate.SettlingSet.{SettlingSet}, specs.declared.standings.Standing.{Standing}, specs.declared.spans.Span.{Span}, specs.Sets.{IsMember}, specs.code.Spans.{HasProperty, AreAmong, IsSpan, AreSpans, AreInOrder, cost}, proofs.Ordering.{order_of}, proofs.Passing.{pushed_each, read_same}}
use Rattle.settling_make.{specs.declared.components.Components.{Components}, specs.declared.margin.Margin.{Margin}, specs.declared.sets.Sets.{Sets}, specs.Components.{number_of, AreComponents}, specs.Fits.{no_margin}, specs.Margins.{Asks, AreMarginsTo, IsPlacedAt, ArePlacedTo}, specs.Sets.{AreSetsOf}, proofs.Placing.{place_is, member_is}}

-- ---- nodes with their sets
-- the place that is read
pub place_here : (places given : List (Option ℕ)) (a : ℕ) (place : Option ℕ) → given ≡ places → Some place ≡ slice_get given a → place ≡ place_at places a
place_here places given a place same there = sym (get_or_from_slice_get places a place None (ap (λ (l : List (Option ℕ)). slice_get l a) (sym same) ∙ sym there))

pub place_past : (places given : List (Option ℕ)) (a : ℕ) → given ≡ places → None ≡ slice_get given a → None ≡ place_at places a
place_past places given a same there =
    let none : slice_get places a ≡ None = ap (λ (l : List (Option ℕ)). slice_get l a) (sym same) ∙ sym there in
    sym (sym (unwrap_or-slice_get places a None) ∙ ap (λ (o : Option (Option ℕ)). unwrap_or o None) none)

module _ (nodes : List Node) (numbers : List ℕ) (places : List (Option ℕ)) where
  pub placed_none : (standings : List Standing) → standings ≡ [] → ArePlacedTo nodes numbers places 0 standings
  placed_none standings empty = record {
    count = ap (λ (l : List Standing). length l) empty;
    each = λ n s at. absurd (none-some s (sym (ap (λ (l : List Standing). slice_get l n) empty) ∙ at));
  }

  pub placed_more : (end : ℕ) (standings after : List Standing) (s : Standing) → after ≡ standings ++ s ∷ [] → IsPlacedAt nodes numbers places end s → ArePlacedTo nodes numbers places end standings → ArePlacedTo nodes numbers places (end + 1) after
  placed_more end standings after s pushed now to = record {
    count = let sum = length_push standings s in let e = ap (λ (l : List Standing). length l) pushed in let c = to.count in omega (arith, sum, e, c);
    each = pushed_each (IsPlacedAt nodes numbers places) standings after s pushed to.each (subst (λ (n : ℕ). IsPlacedAt nodes numbers places n s) (sym to.count) now);
  }

  pub placed_all : (end count : ℕ) (standings : List Standing) → end ≡ count → ArePlacedTo nodes numbers places end standings → ArePlacedTo nodes numbers places count standings
  placed_all end count standings same to = subst (λ (n : ℕ). ArePlacedTo nodes numbers places n standings) same to

-- ---- margins
module _ (p : Loaded) (made : Sets) where
  pub margins_none : (margins : List Margin) → margins ≡ [] → AreMarginsTo p made 0 margins
  margins_none margins empty = record {
    count = ap (λ (l : List Margin). length l) empty;
    each = λ k m at. absurd (none-some m (sym (ap (λ (l : List Margin). slice_get l k) empty) ∙ at));
  }

  pub margins_more : (end : ℕ) (margins after : List Margin) (margin : Margin) → after ≡ margins ++ margin ∷ [] → Asks p made.sets (place_at made.places end) margin → AreMarginsTo p made end margins → AreMarginsTo p made (end + 1) after
  margins_more end margins after margin pushed now to = record {
    count = let sum = length_push margins margin in let e = ap (λ (l : List Margin). length l) pushed in let c = to.count in omega (arith, sum, e, c);
    each = pushed_each (λ (k : ℕ) (m : Margin). Asks p made.sets (place_at made.places k) m) margins after margin pushed to.each (subst (λ (n : ℕ). Asks p made.sets (place_at made.places n) margin) (sym to.count) now);
  }

  pub margins_all : (end count : ℕ) (margins : List Margin) → end ≡ count → AreMarginsTo p made end margins → AreMarginsTo p made count margins
  margins_all end count margins same to = subst (λ (n : ℕ). AreMarginsTo p made n margins) same to

module _ (p : Loaded) (sound : IsSound p) (scan : Scanned) (is : IsScan p scan) (found : Components) (are : AreComponents scan.rows found) (height : ℕ → ℕ) (made : Sets) (sets_are : AreSetsOf p scan.rows found height made)
    (standings : List Standing) (placed : ArePlacedTo (nodes_of p) found.numbers made.places (length (nodes_of p)) standings) where
  pub set_inside : (n k : ℕ) (s : Standing) → slice_get standings n ≡ Some s → s.set ≡ Some k → k < length made.sets
  set_inside n k s at has = sets_are.inside (number_of found.numbers n) k (sym (placed.each n s at).set ∙ has)

  pub placed_in_order : AreInOrder standings
  placed_in_order = order_of p standings (λ n s at. (placed.each n s at).node)

  module _ (spans : List Span) (spans_are : AreSpans made.sets standings spans) (i : ℕ) (span : Span) (at_span : slice_get spans i ≡ Some span) (set : SettlingSet) (at_set : slice_get made.sets i ≡ Some set) where
    shared : IsSpan standings (length standings) i span
    shared = spans_are.each i span at_span

    property_of : (c q : ℕ) → IsMember p set (node c (Property q)) → HasProperty standings (length standings) i c q
    property_of c q member =
        let n = member.named.node in
        let low = slice_get_within (nodes_of p) n.0 (node c (Property q)) n.1 in
        let s = some_inside standings n.0 (let count = placed.count in omega (arith, low, count)) in
        let own = placed.each n.0 s.0 s.1 in
        record {
          number = n.0;
          standing = s.0;
          of = record {
            low = slice_get_within standings n.0 s.0 s.1;
            is = s.1;
            set = own.set ∙ place_is p sound scan is found are height made sets_are i set at_set (node c (Property q)) n.0 n.1 member;
          };
          is = one_at p s.0.node (node c (Property q)) n.0 own.node n.1;
        }

    of_property : (c q : ℕ) → HasProperty standings (length standings) i c q → IsMember p set (node c (Property q))
    of_property c q has =
        let own = placed.each has.number has.standing has.of.is in
        let at : IsAt (nodes_of p) (node c (Property q)) has.number = subst (λ (x : Node). IsAt (nodes_of p) x has.number) has.is own.node in
        member_is p sound scan is found are height made sets_are i set at_set (node c (Property q)) has.number at (sym own.set ∙ has.of.set)

    pub asks_some : (margin : Margin) → margin.least ≡ 1 → margin.round ≡ span.round → margin.cost ≡ cost span → Asks p made.sets (Some i) margin
    asks_some margin least round costs other at_other = record {
      least = least;
      round = round ∙ spans_are.rounds i other span at_other at_span;
      most = span.most;
      cost = costs ∙ ap (λ (r : ℕ). r * span.most) (spans_are.rounds i other span at_other at_span);
      some = shared.some;
      at_most = λ c qs properties. shared.few c qs (record { each = λ q held. property_of c q (here c q (properties.each q held)); once = properties.once });
      met = elim shared.many [
        | inl one ↦ inl one
        | inr w ↦
            let among : AreAmong standings (length standings) i w.0 w.1 = w.2 in
            inr (record {
              class = w.0;
              properties = w.1;
              are = record { each = λ q held. there w.0 q (of_property w.0 q (among.each q held)); once = among.once };
              many = w.3;
            })
      ];
    }
      where
        same : other ≡ set
        same = same_Some other set (sym at_other ∙ at_set)

        here : (c q : ℕ) → IsMember p other (node c (Property q)) → IsMember p set (node c (Property q))
        here c q member = subst (λ (t : SettlingSet). IsMember p t (node c (Property q))) same member

        there : (c q : ℕ) → IsMember p set (node c (Property q)) → IsMember p other (node c (Property q))
        there c q member = subst (λ (t : SettlingSet). IsMember p t (node c (Property q))) (sym same) member

-- the nodes of the program
pub placed_nodes : (p : Loaded) (scan : Scanned) → IsScan p scan → (numbers : List ℕ) (places : List (Option ℕ)) (standings : List Standing) → ArePlacedTo scan.nodes numbers places (length scan.nodes) standings → ArePlacedTo (nodes_of p) numbers places (length (nodes_of p)) standings
placed_nodes p scan is numbers places standings placed = subst (λ (ns : List Node). ArePlacedTo ns numbers places (length ns) standings) is.nodes placed

-- what the set at the place that was read asks
pub asks_read : (p : Loaded) (sound : IsSound p) (scan : Scanned) (is : IsScan p scan) (found : Components) (are : AreComponents scan.rows found) (height : ℕ → ℕ) (made : Sets) (sets_are : AreSetsOf p scan.rows found height made)
    (standings : List Standing) (placed : ArePlacedTo (nodes_of p) found.numbers made.places (length (nodes_of p)) standings) (spans : List Span) (spans_are : AreSpans made.sets standings spans)
    (k i : ℕ) → place_at made.places k ≡ Some i → (items : List Span) (d : Span) → items ≡ spans → (margin : Margin) → margin.least ≡ 1 → margin.round ≡ (get_or items i d).round → margin.cost ≡ cost (get_or items i d) → Asks p made.sets (place_at made.places k) margin
asks_read p sound scan is found are height made sets_are standings placed spans spans_are k i here items d same margin least round costs =
    let inside = sets_are.inside k i here in
    let set = some_inside made.sets i inside in
    let count = spans_are.count in
    let long = ap (λ (l : List Span). length l) same in
    let low : i < length items = omega (arith, inside, count, long) in
    let there = read_same items spans i d same low in
    subst (λ (place : Option ℕ). Asks p made.sets place margin) (sym here)
    (asks_some p sound scan is found are height made sets_are standings placed spans spans_are i (get_or items i d) there set.0 set.1 margin least round costs)

pub asks_none : (p : Loaded) (made : Sets) (k : ℕ) → place_at made.places k ≡ None → (margin : Margin) → margin ≡ no_margin → Asks p made.sets (place_at made.places k) margin
asks_none p made k here margin same = subst (λ (place : Option ℕ). Asks p made.sets place margin) (sym here) same
