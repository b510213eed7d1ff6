-- What is made for a program that has a certificate without steps.
use Rattle.std.{proofs.Common.{◌≡◌, inl, inr, ℕ, ◌<◌, ◌≤◌, List, [], ◌∷◌, length, slice_get, Bool, Option, Some, None, Result, Ok, Err, refl, sym, ap, ◌∙◌, subst, arith}, proofs.lemmas.Bool.{cases_lt}, proofs.lemmas.List.{get_or_past}, proofs.lemmas.Option.{same_Some, none-some}}
use Rattle.meta_model.specs.Loaded.{Loaded}
use Rattle.effect_scan.specs.{declared.node.Node.{Node}, Nodes.{nodes_of, IsAt}, Rows.{row, Edge}, Laws.{EdgesJoinNodes}, Scans.{Scanned}}
use Rattle.certificate_lang.specs.declared.certificate.{Line.{Line}, Certificate.{Certificate}}
use Rattle.rank_graph.specs.Walks.{LeadsBy}
use Rattle.rank_check.specs.Valid as plain
use Rattle.rank_check.{specs.Entries.{place_at}, proofs.Conditions.{edges_inside}, proofs.Elements.{some_inside}}
use Rattle.settling.specs.{declared.certificate.SettlingCertificate.{SettlingCertificate}, Laws.{EachHasAlike}}
use Rattle.settling_make.{specs.declared.components.Components.{Components}, specs.declared.margin.Margin.{Margin}, specs.declared.sets.Sets.{Sets}, specs.Components.{number_of}, specs.Fits.{no_margin, margin_of, FitRanks, FitSteps, RanksAreHigh, StepsAreHigh}, specs.declared.why.Why.{Why}, specs.declared.why.Why.TheVariants.{Wire, BodyType, Circling, Ending, TooLong, TooHigh, TooSteep, Memory}, specs.Makes.{AreParts, IsMadeOf, IsMade, IsReason, Makes}, specs.Flat.{IsFlatAs, MakesFlat}, specs.Margins.{Asks}, specs.Sets.{HasInside}, proofs.Chaining.{asked}, proofs.Circling.{number_falls}}

module _ (p : Loaded) (join : EdgesJoinNodes p) (given : Certificate) (valid : plain.IsValid p given) (scan : Scanned) (found : Components) (height : ℕ → ℕ) (made : Sets) (margins : List Margin) (parts : AreParts p scan found height made margins) where
  -- ---- the ranks of the certificate, by the numbers of nodes
  rank_by : (n : ℕ) (x : Option Node) → slice_get (nodes_of p) n ≡ x → ℕ
  rank_by n None at = 0
  rank_by n (Some x) at = (valid.each_node x (n, at)).0.rank

  rank : ℕ → ℕ
  rank n = rank_by n (slice_get (nodes_of p) n) refl

  rank_is : (n : ℕ) (x : Node) → IsAt (nodes_of p) x n → (line : Line) × plain.IsLineOf p given x line × (rank n ≡ line.rank)
  unfolding rank_by rank
  rank_is n x at = by_node (slice_get (nodes_of p) n) refl
    where
      by_node : (o : Option Node) (is : slice_get (nodes_of p) n ≡ o) → (line : Line) × plain.IsLineOf p given x line × (rank_by n o is ≡ line.rank)
      by_node None is = absurd (none-some x (sym is ∙ at))
      by_node (Some y) is =
          let same : y ≡ x = same_Some y x (sym is ∙ at) in
          let line = valid.each_node y (n, is) in
          (line.0, subst (λ (z : Node). plain.IsLineOf p given z line.0) same line.1, refl)

  falls : (a b : ℕ) → Edge scan.rows a b → rank b < rank a
  falls a b edge =
      let leads = (parts.scan_is.edges.edges a b).0 edge in
      let from = rank_is a leads.from leads.is_from in
      let to = rank_is b leads.to leads.is_to in
      let low = valid.ranks leads.from leads.to from.0 to.0 leads.leads from.1 to.1 in
      let first = from.2 in
      let second = to.2 in
      omega (arith, low, first, second)

  walk_falls : (a : ℕ) (ws : List ℕ) (b : ℕ) → LeadsBy (Edge scan.rows) a ws b → rank b ≤ rank a
  walk_falls a [] b walk = let same = ap rank walk in omega (arith, same)
  walk_falls a (w ∷ ws) b walk = let first = falls a w walk.0 in let rest = walk_falls w ws b walk.1 in omega (arith, first, rest)

  -- ---- no component has an edge inside
  none_inside : (k : ℕ) → ¬ HasInside scan.rows found.numbers k (row found.sets k)
  none_inside k has =
      let from = (parts.found_are.members has.from k).0 has.among in
      let high = edges_inside p scan parts.scan_is (length scan.rows) parts.scan_is.edges.count has.from has.to has.edge in
      let back = parts.found_are.together has.to has.from high from.0 (has.inside ∙ sym from.1) in
      let down = falls has.from has.to has.edge in
      let up = walk_falls has.to back.along has.from back.leads in
      omega (arith, down, up)

  alone : (a b : ℕ) → a < length scan.rows → b < length scan.rows → number_of found.numbers a ≡ number_of found.numbers b → a ≡ b
  alone a b low high same =
      let walk = parts.found_are.together a b low high same in
      first walk.along walk.leads
    where
      first : (ws : List ℕ) → LeadsBy (Edge scan.rows) a ws b → a ≡ b
      first [] walk = walk
      first (w ∷ ws) walk =
          let down = parts.found_are.falls a w walk.0 in
          let up = number_falls p scan parts.scan_is found parts.found_are w ws b walk.1 in
          absurd (none_inside (number_of found.numbers a)
          (record { from = a; to = w; among = (parts.found_are.members a (number_of found.numbers a)).1 (low, refl); edge = walk.0; inside = omega (arith, down, up, same) }))

  -- so none asks anything
  margin_is : (k : ℕ) → margin_of margins k ≡ no_margin
  margin_is k =
      elim (cases_lt k (length found.sets)) [
        | inl inside ↦ by_place (place_at made.places k) refl (asked p join scan parts.scan_is found parts.found_are height parts.heights parts.low made parts.sets margins parts.margins_are k inside)
        | inr past ↦ get_or_past margins k no_margin (let count = parts.margins_are.count in omega (arith, past, count))
      ]
    where
      by_place : (place : Option ℕ) → place_at made.places k ≡ place → Asks p made.sets (place_at made.places k) (margin_of margins k) → margin_of margins k ≡ no_margin
      by_place None at asks = subst (λ (place : Option ℕ). Asks p made.sets place (margin_of margins k)) at asks
      by_place (Some i) at asks = absurd (none_inside k (parts.sets.some k i at))

  fit_ranks : FitRanks scan.nodes scan.rows found.numbers margins rank
  fit_ranks = record {
    falls = λ a b edge down. falls a b edge;
    above = λ a low. let e = ap (λ (m : Margin). m.least) (margin_is (number_of found.numbers a)) in omega (arith, e);
    close = λ a b low high same.
        let e = ap (λ (m : Margin). m.round) (margin_is (number_of found.numbers a)) in
        let one = ap rank (alone a b low high same) in
        omega (arith, e, one);
  }

  abbrev flat : ℕ → ℕ
  flat k = 0

  fit_steps : (outer : List (List ℕ)) → FitSteps outer margins flat
  fit_steps outer = record {
    leaves = λ k j edge. let e = ap (λ (m : Margin). m.cost) (margin_is k) in omega (arith, e);
    enough = λ k low. let e = ap (λ (m : Margin). m.cost) (margin_is k) in omega (arith, e);
  }

  rank_low : (a : ℕ) → a < length scan.rows → rank a < given.bound
  rank_low a low =
      let count = parts.scan_is.edges.count in
      let x = some_inside (nodes_of p) a (omega (arith, low, count)) in
      let line = rank_is a x.0 x.1 in
      let below = valid.bounded.ranks line.0 (line.1).stands in
      let e = line.2 in
      omega (arith, below, e)

  pub not_high : ¬ RanksAreHigh scan.nodes scan.rows found.numbers margins
  not_high high =
      let at = high rank fit_ranks in
      let low = rank_low at.0 at.1 in
      let most = valid.bounded.bound in
      let much = at.2 in
      omega (arith, low, most, much)

  pub not_steep : (outer : List (List ℕ)) → ¬ StepsAreHigh outer margins
  not_steep outer high = let at = high flat (fit_steps outer) in let much = at.2 in omega (arith, much)

  pub flat_made : (leads : ℕ → ℕ → Bool) (certificate : SettlingCertificate) → IsMadeOf p scan found height made margins leads certificate → (certificate.step ≡ 0) × (certificate.bound ≤ given.bound)
  flat_made leads certificate m = (
    elim m.step.met [
      | inl none ↦ none
      | inr at ↦
          let count = m.steps_are.count in
          let inside = at.1 in
          let least = m.steps_are.least flat (fit_steps m.outer) at.0 (omega (arith, count, inside)) in
          let e = at.2 in
          omega (arith, least, e)
    ],
    elim m.bound.least [
      | inl none ↦ omega (arith, none)
      | inr at ↦
          let count = m.ranks_are.count in
          let inside = at.1 in
          let low : at.0 < length scan.rows = omega (arith, count, inside) in
          let least = m.ranks_are.least rank fit_ranks at.0 low in
          let below = rank_low at.0 low in
          let e = at.2 in
          omega (arith, least, below, e)
    ],
  )

flat_is : (p : Loaded) (join : EdgesJoinNodes p) (given : Certificate) (valid : plain.IsValid p given) (certificate : SettlingCertificate) → IsMade p certificate → IsFlatAs given (Ok certificate)
flat_is p join given valid certificate is = flat_made p join given valid is.scan is.found is.height is.sets is.margins is.of.parts is.leads certificate is.of

-- a program with a valid certificate has none of the reasons but memory
flat_why : (p : Loaded) → EdgesJoinNodes p → (alike : EachHasAlike) (given : Certificate) → plain.IsValid p given → (why : Why) → IsReason p why → why ≡ Memory
flat_why p join alike given valid (Wire place) reason = let own = alike p given valid in absurd (reason.1 own.settling own.valid)
flat_why p join alike given valid (BodyType spot) reason = let own = alike p given valid in absurd (reason.2 own.settling own.valid)
flat_why p join alike given valid (Circling circle) reason = let own = alike p given valid in absurd (reason.2 own.settling own.valid)
flat_why p join alike given valid (Ending x) reason = let own = alike p given valid in absurd (reason.2 own.settling own.valid)
flat_why p join alike given valid (TooLong x) reason = let own = alike p given valid in absurd (reason.2 own.settling own.valid)
flat_why p join alike given valid TooHigh reason =
    let at = reason.1 in
    absurd (not_high p join given valid at.scan at.found at.height at.made at.margins at.parts at.high)
flat_why p join alike given valid TooSteep reason =
    let at = reason.1 in
    absurd (not_steep p join given valid at.scan at.found at.height at.made at.margins at.parts at.outer at.high)
flat_why p join alike given valid Memory reason = refl

pub flat_of : (p : Loaded) → EdgesJoinNodes p → EachHasAlike → (result : Result SettlingCertificate Why) → Makes p result → MakesFlat p result
flat_of p join alike (Ok certificate) makes = λ given valid. flat_is p join given valid certificate makes.1
flat_of p join alike (Err why) makes = λ given valid. flat_why p join alike given valid why makes
