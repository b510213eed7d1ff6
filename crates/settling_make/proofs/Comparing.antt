-- What a valid certificate has whose sets are those that are made: its ranks and steps fit them.
use Rattle.std.{proofs.Common.{◌≡◌, ◌≢◌, ◌⊎◌, inl, inr, ℕ, zero, suc, ◌+◌, ◌-◌, ◌*◌, ◌<◌, ◌≤◌, List, [], ◌∷◌, length, get_or, slice_get, Option, Some, None, refl, sym, ap, ◌∙◌, subst, arith}, proofs.Math.Nat.{add-mul, mul-le-mul_left, mul-le-mul_right}, proofs.lemmas.Bool.{cases_eq, cases_lt}, proofs.lemmas.List.Elements.{Contains-get_or}, proofs.lemmas.Option.{same_Some, none-some}}
use Rattle.meta_model.specs.{Loaded.{Loaded}, Sound.{IsSound}}
use Rattle.effect_scan.specs.{declared.node.Node.{Node}, declared.node.Member.TheVariants.{Property}, Nodes.{node, nodes_of, IsAt}, Rows.{row, Edge}, Edges.{MayLead}, Laws.{EdgesJoinNodes}, Scans.{Scanned}}
use Rattle.rank_graph.{specs.Walks.{LeadsBy}, proofs.Driving.{edge_inside}}
use Rattle.rank_check.{specs.Entries.{place_at}, proofs.Conditions.{edges_inside}, proofs.Elements.{some_inside, element_at}}
use Rattle.rank_make.proofs.Placed.{one_number, one_at}
use Rattle.settling.specs.{declared.certificate.SettlingLine.{SettlingLine}, declared.certificate.SettlingSet.{SettlingSet}, declared.certificate.SettlingCertificate.{SettlingCertificate}, Sets.{IsMember, IsIn, AreTogether}, Valid.{IsLineOf, IsRound, IsValid}}
use Rattle.settling_make.{specs.declared.components.Components.{Components}, specs.declared.margin.Margin.{Margin}, specs.declared.sets.Sets.{Sets}, specs.Collected.{LeadsOut, AreCollected}, specs.Components.{number_of}, specs.Fits.{no_margin, margin_of, at_place, FitRanks, FitSteps, AreLeastSteps, SilentEdge}, specs.Least.{LeadsOn, HasCircles}, specs.Makes.{AreParts}, specs.Margins.{Asks, IsMarginOf}, proofs.Barred.{one_line}, proofs.Chaining.{heights_inside, asked}, proofs.Circling.{edge_from, walk_between, walk_numbers, number_falls}, proofs.Placing.{node_low, set_at, place_is, set_of, leads_inside}}

right_some : (a b : ℕ) → 0 < a * b → 0 < b
right_some zero b pos = absurd (omega (arith, pos))
right_some (suc a) zero pos = let none : suc a * 0 ≡ 0 = omega arith in absurd (omega (arith, pos, none))
right_some (suc a) (suc b) pos = omega arith

one_more : (a b : ℕ) → (a + 1) * b ≡ a * b + b
one_more a b = let sum = add-mul a 1 b in omega (arith, sum)

-- one of two numbers, by which case holds
pick : {A : Type 0} → A ⊎ (¬ A) → ℕ → ℕ → ℕ
pick (inl is) one two = one
pick (inr away) one two = two

pick_one : {A : Type 0} (c : A ⊎ (¬ A)) (one two : ℕ) → A → pick c one two ≡ one
unfolding pick
pick_one (inl is) one two holds = refl
pick_one (inr away) one two holds = absurd (away holds)

pick_two : {A : Type 0} (c : A ⊎ (¬ A)) (one two : ℕ) → (¬ A) → pick c one two ≡ two
unfolding pick
pick_two (inl is) one two away = absurd (away is)
pick_two (inr away) one two also = refl

module _ (p : Loaded) (sound : IsSound p) (join : EdgesJoinNodes p) (scan : Scanned) (found : Components) (height : ℕ → ℕ) (made : Sets) (margins : List Margin) (parts : AreParts p scan found height made margins) where
  abbrev number : ℕ → ℕ
  number n = number_of found.numbers n

  -- the component of this node has the set at this place
  abbrev IsOf : ℕ → ℕ → Type 0
  IsOf n i = place_at made.places (number n) ≡ Some i

  pub low_of : (x : Node) (n : ℕ) → IsAt (nodes_of p) x n → n < length scan.rows
  low_of x n at = node_low p sound scan parts.scan_is found parts.found_are height made parts.sets x n at

  pub node_there : (n : ℕ) → n < length scan.rows → (x : Node) × IsAt (nodes_of p) x n
  node_there n low = some_inside (nodes_of p) n (let count = parts.scan_is.edges.count in omega (arith, low, count))

  -- two nodes of one set's component lead to one another
  pub leads_on : (n k i : ℕ) (x y : Node) → IsAt (nodes_of p) x n → IsAt (nodes_of p) y k → IsOf n i → number n ≡ number k → LeadsOn p x y
  leads_on n k i x y at_x at_y here same =
      let to = leads_inside p sound scan parts.scan_is found parts.found_are height made parts.sets n i (low_of x n at_x) here in
      let z = edge_from p scan parts.scan_is n to.0 x to.1 at_x in
      let back = parts.found_are.together to.0 k (low_of z.0 to.0 z.1) (low_of y k at_y) (sym to.2 ∙ same) in
      let walk = walk_between p scan parts.scan_is to.0 back.along k z.0 y back.leads z.1 at_y in
      record { next = z.0; leads = z.2; along = walk.0; rest = walk.1 }

  -- .. and no others do
  number_on : (n k : ℕ) (x y : Node) → IsAt (nodes_of p) x n → IsAt (nodes_of p) y k → LeadsOn p x y → (m : ℕ) × Edge scan.rows n m × (number k ≤ number m) × (number m ≤ number n)
  number_on n k x y at_x at_y on =
      let z = (join x on.next on.leads).1 in
      let edge : Edge scan.rows n z.0 = (parts.scan_is.edges.edges n z.0).1 (record { from = x; to = on.next; is_from = at_x; is_to = z.1; leads = on.leads }) in
      let walk = walk_numbers p scan parts.scan_is found parts.found_are join on.next on.along y z.0 k on.rest z.1 at_y (one_number p y) in
      (z.0, edge, number_falls p scan parts.scan_is found parts.found_are z.0 walk.0 k walk.1, parts.found_are.falls n z.0 edge)

  pub of_round : (n k : ℕ) (x y : Node) → IsAt (nodes_of p) x n → IsAt (nodes_of p) y k → LeadsOn p x y → LeadsOn p y x → (i : ℕ) × IsOf n i × (number n ≡ number k)
  of_round n k x y at_x at_y on back =
      let there = number_on n k x y at_x at_y on in
      let home = number_on k n y x at_y at_x back in
      let a = there.2 in
      let b = there.3 in
      let c = home.2 in
      let d = home.3 in
      let same : number n ≡ number k = omega (arith, a, b, c, d) in
      let set = set_of p sound scan parts.scan_is found parts.found_are height made parts.sets n there.0 there.1 (omega (arith, a, b, c, d)) in
      (set.0, set.1, same)

  module _ (other : SettlingCertificate) (valid : IsValid p other) (circles : HasCircles p other) where
    -- ---- what the other certificate says, by the numbers of nodes
    pub level_by : (SettlingLine → ℕ) → (n : ℕ) (x : Option Node) → slice_get (nodes_of p) n ≡ x → ℕ
    level_by f n None at = 0
    level_by f n (Some x) at = f (valid.each_node x (n, at)).0

    pub level : (SettlingLine → ℕ) → ℕ → ℕ
    level f n = level_by f n (slice_get (nodes_of p) n) refl

    pub level_is : (f : SettlingLine → ℕ) (n : ℕ) (x : Node) → IsAt (nodes_of p) x n → (line : SettlingLine) → IsLineOf p other x line → level f n ≡ f line
    unfolding level_by level
    level_is f n x at line of_line = by_node (slice_get (nodes_of p) n) refl
      where
        by_node : (o : Option Node) (is : slice_get (nodes_of p) n ≡ o) → level_by f n o is ≡ f line
        by_node None is = absurd (none-some x (sym is ∙ at))
        by_node (Some y) is =
            let same : y ≡ x = same_Some y x (sym is ∙ at) in
            let own = valid.each_node y (n, is) in
            ap f (one_line p join other valid x own.0 line (subst (λ (z : Node). IsLineOf p other z own.0) same own.1) of_line)

    abbrev pub rank : ℕ → ℕ
    rank n = level (λ (l : SettlingLine). l.rank) n

    abbrev pub step : ℕ → ℕ
    step n = level (λ (l : SettlingLine). l.step) n

    line_there : (n : ℕ) (x : Node) → IsAt (nodes_of p) x n → (line : SettlingLine) × IsLineOf p other x line × (rank n ≡ line.rank) × (step n ≡ line.step)
    line_there n x at =
        let line = valid.each_node x (n, at) in
        (line.0, line.1, level_is (λ (l : SettlingLine). l.rank) n x at line.0 line.1, level_is (λ (l : SettlingLine). l.step) n x at line.0 line.1)

    together : (n k i : ℕ) (x y : Node) → IsAt (nodes_of p) x n → IsAt (nodes_of p) y k → IsOf n i → number n ≡ number k → AreTogether p other x y
    together n k i x y at_x at_y here same = circles.round x y (leads_on n k i x y at_x at_y here same) (leads_on k n i y x at_y at_x (ap (place_at made.places) (sym same) ∙ here) (sym same))

    apart : (n k : ℕ) (x y : Node) → IsAt (nodes_of p) x n → IsAt (nodes_of p) y k → AreTogether p other x y → (i : ℕ) × IsOf n i × (number n ≡ number k)
    apart n k x y at_x at_y both = let on = circles.only x y both in of_round n k x y at_x at_y on.0 on.1

    -- along edges the step doesn't rise
    step_down : (n k : ℕ) → Edge scan.rows n k → step k ≤ step n
    step_down n k edge =
        let leads = (parts.scan_is.edges.edges n k).0 edge in
        let from = line_there n leads.from leads.is_from in
        let to = line_there k leads.to leads.is_to in
        let low = valid.edges.steps leads.from leads.to from.0 to.0 leads.leads from.1 to.1 in
        let first = from.3 in
        let second = to.3 in
        omega (arith, low, first, second)

    walk_down : (n : ℕ) (ws : List ℕ) (k : ℕ) → LeadsBy (Edge scan.rows) n ws k → step k ≤ step n
    walk_down n [] k walk = let same = ap step walk in omega (arith, same)
    walk_down n (w ∷ ws) k walk = let first = step_down n w walk.0 in let rest = walk_down w ws k walk.1 in omega (arith, first, rest)

    one_step : (n k : ℕ) → n < length scan.rows → k < length scan.rows → number n ≡ number k → step n ≡ step k
    one_step n k low high same =
        let there = parts.found_are.together n k low high same in
        let back = parts.found_are.together k n high low (sym same) in
        let a = walk_down n there.along k there.leads in
        let b = walk_down k back.along n back.leads in
        omega (arith, a, b)

    -- the step of a component's nodes
    pub step_of : ℕ → ℕ
    step_of k = step (get_or (row found.sets k) 0 0)

    pub step_is : (n : ℕ) → n < length scan.rows → step_of (number n) ≡ step n
    unfolding step_of level
    step_is n low =
        let among = (parts.found_are.members n (number n)).1 (low, refl) in
        let some : 0 < length (row found.sets (number n)) = let inside = among.1 in omega (arith, inside) in
        let first = (parts.found_are.members (get_or (row found.sets (number n)) 0 0) (number n)).0 (Contains-get_or (row found.sets (number n)) 0 0 some) in
        one_step (get_or (row found.sets (number n)) 0 0) n first.0 low first.1

    -- it is no greater than the certificate's
    pub step_top : (n : ℕ) → step n ≤ other.step
    unfolding level_by level
    step_top n = by_node (slice_get (nodes_of p) n) refl
      where
        by_node : (o : Option Node) (is : slice_get (nodes_of p) n ≡ o) → level_by (λ (l : SettlingLine). l.step) n o is ≤ other.step
        by_node None is = omega arith
        by_node (Some x) is = let line = valid.each_node x (n, is) in valid.bounded.steps line.0 line.1.stands

    pub step_of_top : (k : ℕ) → step_of k ≤ other.step
    unfolding step_of level
    step_of_top k = step_top (get_or (row found.sets k) 0 0)

    pub rank_top : (n : ℕ) → n < length scan.rows → rank n < other.bound
    rank_top n low =
        let x = node_there n low in
        let line = line_there n x.0 x.1 in
        let below = valid.bounded.ranks line.0 line.1.stands in
        let e = line.2 in
        omega (arith, below, e)

    -- ---- a set's component
    module _ (a : ℕ) (x : Node) (at_x : IsAt (nodes_of p) x a) (i : ℕ) (here : IsOf a i) where
      own : (k : ℕ) × IsIn p other k x × IsIn p other k x
      own = together a a i x x at_x at_x here refl

      theirs : SettlingSet
      theirs = own.1.set

      round : IsRound p other theirs
      unfolding theirs own
      round = valid.rounds theirs (element_at other.sets own.0 theirs own.1.stands)

      member_of : (n : ℕ) (y : Node) → IsAt (nodes_of p) y n → number a ≡ number n → IsMember p theirs y
      unfolding theirs own
      member_of n y at_y same =
          let both = together a n i x y at_x at_y here same in
          let place : both.0 ≡ own.0 = valid.nothing_else.apart both.0 own.0 x both.1 own.1 in
          let set : both.2.set ≡ theirs = same_Some both.2.set theirs (sym both.2.stands ∙ ap (λ (k : ℕ). slice_get other.sets k) place ∙ own.1.stands) in
          subst (λ (s : SettlingSet). IsMember p s y) set both.2.member

      ours : (set : SettlingSet) × (slice_get made.sets i ≡ Some set)
      ours = set_at p sound scan parts.scan_is found parts.found_are height made parts.sets (number a) i here

      set_low : number a < length found.sets
      set_low = edge_inside found.sets (number a) a ((parts.found_are.members a (number a)).1 (low_of x a at_x, refl))

      asks : IsMarginOf p ours.0 (margin_of margins (number a))
      asks =
          let told = asked p join scan parts.scan_is found parts.found_are height parts.heights parts.low made parts.sets margins parts.margins_are (number a) set_low in
          let there : Asks p made.sets (Some i) (margin_of margins (number a)) = subst (λ (place : Option ℕ). Asks p made.sets place (margin_of margins (number a))) here told in
          there ours.0 ours.1

      -- along its edges into no property the rank falls
      silent_down : (n : ℕ) (ws : List ℕ) (k : ℕ) → number a ≡ number n → LeadsBy (SilentEdge scan.nodes scan.rows found.numbers) n ws k → (rank k + length ws ≤ rank n) × (number a ≡ number k)
      silent_down n [] k same walk = let e = ap rank walk in (omega (arith, e), same ∙ ap number walk)
      silent_down n (w ∷ ws) k same walk =
          let leads = (parts.scan_is.edges.edges n w).0 walk.0.0 in
          let from = line_there n leads.from leads.is_from in
          let to = line_there w leads.to leads.is_to in
          let inside = walk.0.1.inside in
          let both = together n w i leads.from leads.to leads.is_from leads.is_to (ap (place_at made.places) (sym same) ∙ here) inside in
          let there : IsAt scan.nodes leads.to w = subst (λ (ns : List Node). IsAt ns leads.to w) (sym parts.scan_is.nodes) leads.is_to in
          let low = valid.edges.falls_within leads.from leads.to from.0 to.0 leads.leads from.1 to.1 both (walk.0.1.silent leads.to there) in
          let rest = silent_down w ws k (same ∙ inside) walk.1 in
          let down = rest.0 in
          let first = from.2 in
          let second = to.2 in
          (omega (arith, low, down, first, second), rest.1)

      round_low : ours.0.round ≤ theirs.round
      round_low =
          let met = (parts.sets.is (number a) i ours.0 here ours.1).round.met in
          let top = (parts.found_are.members met.0 (number a)).0 met.1 in
          let chain = (heights_inside p join scan parts.scan_is found parts.found_are height parts.heights).chain met.0 top.0 in
          let down = silent_down met.0 chain.0 chain.1 (sym top.1) chain.2 in
          let y = node_there met.0 top.0 in
          let high = line_there met.0 y.0 y.1 in
          let member_y = member_of met.0 y.0 y.1 (sym top.1) in
          elim (cases_lt chain.1 (length scan.rows)) [
            | inl inside ↦
                let z = node_there chain.1 inside in
                let end = line_there chain.1 z.0 z.1 in
                let near = round.close z.0 y.0 end.0 high.0 (member_of chain.1 z.0 z.1 down.1) member_y end.1 high.1 in
                let fall = down.0 in
                let long = chain.3 in
                let e = met.2 in
                let first = high.2 in
                let second = end.2 in
                omega (arith, near, fall, long, e, first, second)
            | inr past ↦ absurd (ends_inside met.0 chain.0 chain.1 top.0 chain.2 past)
          ]
        where
          ends_inside : (n : ℕ) (ws : List ℕ) (k : ℕ) → n < length scan.rows → LeadsBy (SilentEdge scan.nodes scan.rows found.numbers) n ws k → length scan.rows ≤ k → ⊥
          ends_inside n [] k low walk past = let same : n ≡ k = walk in omega (arith, low, same, past)
          ends_inside n (w ∷ ws) k low walk past = ends_inside w ws k (edges_inside p scan parts.scan_is (length scan.rows) parts.scan_is.edges.count n w walk.0.0) walk.1 past

      most_low : asks.most ≤ round.most
      most_low =
          elim asks.met [
            | inl one ↦ let some = right_some theirs.round round.most round.some in omega (arith, one, some)
            | inr many ↦
                let long = many.many in
                let few = round.at_most many.class many.properties (record {
                  each = λ q held.
                      let member = many.are.each q held in
                      let n = member.named.node in
                      let place = place_is p sound scan parts.scan_is found parts.found_are height made parts.sets i ours.0 ours.1 (node many.class (Property q)) n.0 n.1 member in
                      member_of n.0 (node many.class (Property q)) n.1 (parts.sets.apart (number a) (number n.0) i here place);
                  once = many.are.once;
                }) in
                omega (arith, long, few)
          ]

      cost_low : (margin_of margins (number a)).cost ≤ theirs.round * round.most
      cost_low =
          let wide = mul-le-mul_left ours.0.round most_low in
          let high = mul-le-mul_right round.most round_low in
          let cost = asks.cost in
          omega (arith, wide, high, cost)

      enough_low : (margin_of margins (number a)).cost ≤ step a
      unfolding theirs own
      enough_low =
          let line = line_there a x at_x in
          let enough = round.enough x line.0 own.1.member line.1 in
          let cost = cost_low in
          let e = line.3 in
          omega (arith, enough, cost, e)

      leaves_by : (b : ℕ) (y : Node) → IsAt (nodes_of p) y b → number a ≡ number b → (k : ℕ) → Edge scan.rows b k → number k ≢ number b → step k + theirs.round * round.most ≤ step b
      unfolding theirs own
      leaves_by b y at_y inside k edge away =
          let leads = (parts.scan_is.edges.edges b k).0 edge in
          let same : leads.from ≡ y = one_at p leads.from y b leads.is_from at_y in
          let from = line_there b y at_y in
          let to = line_there k leads.to leads.is_to in
          let outside : ¬ IsMember p theirs leads.to = λ member.
          let both : AreTogether p other x leads.to = (own.0, own.1, record { set = theirs; stands = own.1.stands; member = member }) in
          away (sym (apart a k x leads.to at_x leads.is_to both).2 ∙ inside) in
          let low = round.leaves y leads.to from.0 to.0 (subst (λ (n : Node). MayLead p n leads.to) same leads.leads) (member_of b y at_y inside) outside from.1 to.1 in
          let first = from.3 in
          let second = to.3 in
          omega (arith, low, first, second)

      leaves_low : (k : ℕ) → Edge scan.rows a k → number k ≢ number a → step k + (margin_of margins (number a)).cost ≤ step a
      leaves_low k edge away = let leaves = leaves_by a x at_x refl k edge away in let cost = cost_low in omega (arith, leaves, cost)

    cost_none : (k : ℕ) → k < length found.sets → place_at made.places k ≡ None → margin_of margins k ≡ no_margin
    cost_none k inside at = subst (λ (place : Option ℕ). Asks p made.sets place (margin_of margins k)) at (asked p join scan parts.scan_is found parts.found_are height parts.heights parts.low made parts.sets margins parts.margins_are k inside)

    -- ---- the steps fit
    pub steps_fit : (outer : List (List ℕ)) → AreCollected (LeadsOut scan.rows found.numbers) found.sets outer → FitSteps outer margins step_of
    steps_fit outer are = record {
      leaves = λ k j edge.
          let inside : k < length found.sets = let low = edge_inside outer k j edge in let count = are.count in omega (arith, low, count) in
          let from = (are.each k inside).given j edge in
          let in_set = (parts.found_are.members from.0 k).0 from.1 in
          leaves k j inside from.0 in_set.0 in_set.1 from.2 (place_at made.places k) refl;
      enough = λ k low. enough k (let count = parts.margins_are.count in omega (arith, low, count)) (place_at made.places k) refl;
    }
      where
        leaves : (k j : ℕ) → k < length found.sets → (a : ℕ) → a < length scan.rows → number a ≡ k → LeadsOut scan.rows found.numbers k a j → (place : Option ℕ) → place_at made.places k ≡ place → step_of j + (margin_of margins k).cost ≤ step_of k
        leaves k j inside a low same out place at =
            let high = edges_inside p scan parts.scan_is (length scan.rows) parts.scan_is.edges.count a out.to out.edge in
            let mine : step_of k ≡ step a = ap step_of (sym same) ∙ step_is a low in
            let next : step_of j ≡ step out.to = ap step_of (sym out.is) ∙ step_is out.to high in
            by_place place at mine next
          where
            by_place : (place : Option ℕ) → place_at made.places k ≡ place → step_of k ≡ step a → step_of j ≡ step out.to → step_of j + (margin_of margins k).cost ≤ step_of k
            by_place None at mine next =
                let free = ap (λ (m : Margin). m.cost) (cost_none k inside at) in
                let down = step_down a out.to out.edge in
                omega (arith, mine, next, free, down)
            by_place (Some i) at mine next =
                let x = node_there a low in
                let falls = leaves_low a x.0 x.1 i (ap (place_at made.places) same ∙ at) out.to out.edge (λ e. out.other (sym out.is ∙ e ∙ same)) in
                let cost = ap (λ (n : ℕ). (margin_of margins n).cost) same in
                omega (arith, mine, next, falls, cost)

        enough : (k : ℕ) → k < length found.sets → (place : Option ℕ) → place_at made.places k ≡ place → (margin_of margins k).cost ≤ step_of k
        enough k inside None at = let free = ap (λ (m : Margin). m.cost) (cost_none k inside at) in omega (arith, free)
        enough k inside (Some i) at =
            let has = parts.sets.some k i at in
            let in_set = (parts.found_are.members has.from k).0 has.among in
            let x = node_there has.from in_set.0 in
            let high = enough_low has.from x.0 x.1 i (ap (place_at made.places) in_set.1 ∙ at) in
            let mine : step_of k ≡ step has.from = ap step_of (sym in_set.1) ∙ step_is has.from in_set.0 in
            let cost = ap (λ (n : ℕ). (margin_of margins n).cost) in_set.1 in
            omega (arith, high, mine, cost)

    -- ---- with steps that are no higher
    module _ (outer : List (List ℕ)) (are : AreCollected (LeadsOut scan.rows found.numbers) found.sets outer) (steps : List ℕ) (least : AreLeastSteps outer margins steps) (no_higher : (n : ℕ) → n < length scan.rows → step n ≤ at_place steps (number n)) where
      module _ (a : ℕ) (x : Node) (at_x : IsAt (nodes_of p) x a) (i : ℕ) (here : IsOf a i) where
        abbrev s : ℕ
        s = at_place steps (number a)

        abbrev full : ℕ
        full = (theirs a x at_x i here).round * (round a x at_x i here).most

        -- these steps, with a lower one of the component
        lower : ℕ → ℕ
        lower k = pick (cases_eq k (number a)) (s - 1) (at_place steps k)

        lower_here : (k : ℕ) → k ≡ number a → lower k ≡ s - 1
        unfolding lower pick
        lower_here k same = pick_one (cases_eq k (number a)) (s - 1) (at_place steps k) same

        lower_else : (k : ℕ) → k ≢ number a → lower k ≡ at_place steps k
        unfolding lower pick
        lower_else k away = pick_two (cases_eq k (number a)) (s - 1) (at_place steps k) away

        lower_low : (k : ℕ) → lower k ≤ at_place steps k
        lower_low k =
            elim (cases_eq k (number a)) [
              | inl same ↦ let e = lower_here k same in let f = ap (at_place steps) same in omega (arith, e, f)
              | inr away ↦ let e = lower_else k away in omega (arith, e)
            ]

        full_low : full ≤ s
        unfolding theirs own
        full_low =
            let line = line_there a x at_x in
            let enough = (round a x at_x i here).enough x line.0 (own a x at_x i here).1.member line.1 in
            let top = no_higher a (low_of x a at_x) in
            let e = line.3 in
            omega (arith, enough, top, e)

        -- .. would fit, if the round were greater
        lower_fit : (margin_of margins (number a)).cost < full → FitSteps outer margins lower
        lower_fit less = record {
          leaves = λ k j edge.
              let was = least.fit.leaves k j edge in
              let down = lower_low j in
              elim (cases_eq k (number a)) [
                | inl same ↦
                    let inside : k < length found.sets = let low = edge_inside outer k j edge in let count = are.count in omega (arith, low, count) in
                    let from = (are.each k inside).given j edge in
                    let in_set = (parts.found_are.members from.0 k).0 from.1 in
                    let y = node_there from.0 in_set.0 in
                    let out = from.2 in
                    let high = edges_inside p scan parts.scan_is (length scan.rows) parts.scan_is.edges.count from.0 out.to out.edge in
                    let falls = leaves_by a x at_x i here from.0 y.0 y.1 (sym same ∙ sym in_set.1) out.to out.edge (λ e. out.other (sym out.is ∙ e ∙ in_set.1)) in
                    let top = no_higher from.0 in_set.0 in
                    let mine = ap (at_place steps) (in_set.1 ∙ same) in
                    let next : step_of j ≡ step out.to = ap step_of (sym out.is) ∙ step_is out.to high in
                    let few : at_place steps j ≤ step_of j = low_step j (let l = set_low_of out.to high in let is = out.is in omega (arith, l, is)) in
                    let here_is = lower_here k same in
                    let cost = ap (λ (n : ℕ). (margin_of margins n).cost) same in
                    omega (arith, down, less, falls, top, mine, next, few, here_is, cost)
                | inr away ↦ let e = lower_else k away in omega (arith, was, down, e)
              ];
          enough = λ k low.
              let was = least.fit.enough k low in
              elim (cases_eq k (number a)) [
                | inl same ↦
                    let e = lower_here k same in
                    let cost = ap (λ (n : ℕ). (margin_of margins n).cost) same in
                    let most = full_low in
                    omega (arith, e, cost, less, most)
                | inr away ↦ let e = lower_else k away in omega (arith, was, e)
              ];
        }
          where
            set_low_of : (n : ℕ) → n < length scan.rows → number n < length found.sets
            set_low_of n low = edge_inside found.sets (number n) n ((parts.found_are.members n (number n)).1 (low, refl))

            low_step : (j : ℕ) → j < length found.sets → at_place steps j ≤ step_of j
            low_step j inside = least.least step_of (steps_fit outer are) j (let count = parts.margins_are.count in omega (arith, inside, count))

        round_high : (theirs a x at_x i here).round ≤ (ours a x at_x i here).0.round
        round_high =
            elim (cases_lt (ours a x at_x i here).0.round (theirs a x at_x i here).round) [
              | inr past ↦ past
              | inl more ↦
                  let wide = mul-le-mul_left (ours a x at_x i here).0.round (most_low a x at_x i here) in
                  let high : ((ours a x at_x i here).0.round + 1) * (round a x at_x i here).most ≤ full = mul-le-mul_right (round a x at_x i here).most (omega (arith, more)) in
                  let sum = one_more (ours a x at_x i here).0.round (round a x at_x i here).most in
                  let some = right_some (theirs a x at_x i here).round (round a x at_x i here).most (round a x at_x i here).some in
                  let cost = (asks a x at_x i here).cost in
                  let less : (margin_of margins (number a)).cost < full = omega (arith, wide, high, sum, some, cost) in
                  let inside = set_low a x at_x i here in
                  let count = parts.margins_are.count in
                  let bad = least.least lower (lower_fit less) (number a) (omega (arith, inside, count)) in
                  let e = lower_here (number a) refl in
                  let top = full_low in
                  absurd (omega (arith, bad, e, less, top))
            ]

      -- a node whose component is no set is alone in it
      alone : (n k : ℕ) → n < length scan.rows → k < length scan.rows → place_at made.places (number n) ≡ None → number n ≡ number k → n ≡ k
      alone n k low high none same =
          let walk = parts.found_are.together n k low high same in
          first walk.along walk.leads
        where
          first : (ws : List ℕ) → LeadsBy (Edge scan.rows) n ws k → n ≡ k
          first [] walk = walk
          first (w ∷ ws) walk =
              let down = parts.found_are.falls n w walk.0 in
              let up = number_falls p scan parts.scan_is found parts.found_are w ws k walk.1 in
              let i = set_of p sound scan parts.scan_is found parts.found_are height made parts.sets n w walk.0 (omega (arith, down, up, same)) in
              absurd (none-some i.0 (sym none ∙ i.1))

      pub ranks_fit : FitRanks scan.nodes scan.rows found.numbers margins rank
      unfolding theirs own
      ranks_fit = record {
        falls = λ n k edge down.
            let leads = (parts.scan_is.edges.edges n k).0 edge in
            let from = line_there n leads.from leads.is_from in
            let to = line_there k leads.to leads.is_to in
            let first = from.2 in
            let second = to.2 in
            elim down [
              | inl away ↦
                  let falls = valid.edges.falls leads.from leads.to from.0 to.0 leads.leads from.1 to.1 (λ both. away (apart n k leads.from leads.to leads.is_from leads.is_to both).2) in
                  omega (arith, falls, first, second)
              | inr silent ↦
                  let i = set_of p sound scan parts.scan_is found parts.found_are height made parts.sets n k edge silent.inside in
                  let both = together n k i.0 leads.from leads.to leads.is_from leads.is_to i.1 silent.inside in
                  let there : IsAt scan.nodes leads.to k = subst (λ (ns : List Node). IsAt ns leads.to k) (sym parts.scan_is.nodes) leads.is_to in
                  let falls = valid.edges.falls_within leads.from leads.to from.0 to.0 leads.leads from.1 to.1 both (silent.silent leads.to there) in
                  omega (arith, falls, first, second)
            ];
        above = λ n low. above n low (place_at made.places (number n)) refl;
        close = λ n k low high same. close n k low high same (place_at made.places (number n)) refl;
      }
        where
          set_low_of : (n : ℕ) → n < length scan.rows → number n < length found.sets
          set_low_of n low = edge_inside found.sets (number n) n ((parts.found_are.members n (number n)).1 (low, refl))

          above : (n : ℕ) → n < length scan.rows → (place : Option ℕ) → place_at made.places (number n) ≡ place → (margin_of margins (number n)).least ≤ rank n
          above n low None at = let e = ap (λ (m : Margin). m.least) (cost_none (number n) (set_low_of n low) at) in omega (arith, e)
          above n low (Some i) at =
              let x = node_there n low in
              let line = line_there n x.0 x.1 in
              let one = (asks n x.0 x.1 i at).least in
              let high = (round n x.0 x.1 i at).above x.0 line.0 (own n x.0 x.1 i at).1.member line.1 in
              let e = line.2 in
              omega (arith, one, high, e)

          close : (n k : ℕ) → n < length scan.rows → k < length scan.rows → number n ≡ number k → (place : Option ℕ) → place_at made.places (number n) ≡ place → rank k < rank n + (margin_of margins (number n)).round
          close n k low high same None at =
              let e = ap (λ (m : Margin). m.round) (cost_none (number n) (set_low_of n low) at) in
              let one = ap rank (alone n k low high at same) in
              omega (arith, e, one)
          close n k low high same (Some i) at =
              let x = node_there n low in
              let y = node_there k high in
              let from = line_there n x.0 x.1 in
              let to = line_there k y.0 y.1 in
              let near = (round n x.0 x.1 i at).close x.0 y.0 from.0 to.0 (own n x.0 x.1 i at).1.member (member_of n x.0 x.1 i at k y.0 y.1 same) from.1 to.1 in
              let most = round_high n x.0 x.1 i at in
              let e = (asks n x.0 x.1 i at).round in
              let first = from.2 in
              let second = to.2 in
              omega (arith, near, most, e, first, second)
