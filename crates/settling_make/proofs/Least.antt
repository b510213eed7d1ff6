-- Why no certificate with the same sets is less than the one that is made.
use Rattle.std.proofs.Common.{◌≡◌, inl, inr, ℕ, ◌<◌, ◌≤◌, List, length, Bool, Result, Ok, Err, refl, sym, ap, ◌∙◌, arith}
use Rattle.meta_model.specs.{Loaded.{Loaded}, Sound.{IsSound}}
use Rattle.effect_scan.specs.{declared.node.Node.{Node}, Laws.{EdgesJoinNodes}, Scans.{Scanned}}
use Rattle.rank_graph.proofs.Driving.{edge_inside}
use Rattle.rank_check.specs.Entries.{place_at}
use Rattle.rank_make.proofs.Placed.{one_number}
use Rattle.settling.specs.{declared.certificate.SettlingLine.{SettlingLine}, declared.certificate.SettlingCertificate.{SettlingCertificate}, Valid.{IsLineOf, IsValid}}
use Rattle.settling_make.{specs.declared.components.Components.{Components}, specs.declared.margin.Margin.{Margin}, specs.declared.sets.Sets.{Sets}, specs.Components.{number_of}, specs.Fits.{at_place}, specs.Least.{HasCircles, HasNoHigher, IsLeast, MakesLeast}, specs.declared.why.Why.{Why}, specs.Makes.{IsMadeOf, IsMade, Makes}, proofs.Validating.{stands, each_node, is_in, in_set, one_component}}
use Rattle.settling_make.proofs.Comparing.{low_of, node_there, leads_on, of_round, level_is, rank, step, step_of, step_is, step_of_top, rank_top, steps_fit, ranks_fit}

-- ---- the certificate that is made
module _ (p : Loaded) (sound : IsSound p) (join : EdgesJoinNodes p) (certificate : SettlingCertificate) (scan : Scanned) (found : Components) (height : ℕ → ℕ) (made : Sets) (margins : List Margin) (leads : ℕ → ℕ → Bool) (m : IsMadeOf p scan found height made margins leads certificate) where
  has_circles : HasCircles p certificate
  has_circles = record {
    round = λ x y on back.
        let n = (join x on.next on.leads).0 in
        let k = (join y back.next back.leads).0 in
        let told = of_round p sound join scan found height made margins m.parts n.0 k.0 x y n.1 k.1 on back in (
          told.0,
          is_in p sound join certificate scan found height made margins leads m told.0 x n.0 n.1 told.1,
          is_in p sound join certificate scan found height made margins leads m told.0 y k.0 k.1 (ap (place_at made.places) (sym told.2) ∙ told.1),
        );
    only = λ x y both.
        let n = both.1.member.named.node in
        let k = both.2.member.named.node in
        let here = in_set p sound join certificate scan found height made margins leads m both.0 x n.0 n.1 both.1 in
        let there = in_set p sound join certificate scan found height made margins leads m both.0 y k.0 k.1 both.2 in
        let same = one_component p sound join certificate scan found height made margins leads m x y n.0 k.0 n.1 k.1 both in (
          leads_on p sound join scan found height made margins m.parts n.0 k.0 both.0 x y n.1 k.1 here same,
          leads_on p sound join scan found height made margins m.parts k.0 n.0 both.0 y x k.1 n.1 there (sym same),
        );
  }

  module _ (other : SettlingCertificate) (valid : IsValid p other) (circles : HasCircles p other) where
    abbrev their_step : ℕ → ℕ
    their_step n = step p sound join scan found height made margins m.parts other valid circles n

    abbrev their_rank : ℕ → ℕ
    their_rank n = rank p sound join scan found height made margins m.parts other valid circles n

    component_step : (k : ℕ) → k < length margins → at_place m.steps k ≤ step_of p sound join scan found height made margins m.parts other valid circles k
    component_step k low =
        m.steps_are.least (step_of p sound join scan found height made margins m.parts other valid circles) (steps_fit p sound join scan found height made margins m.parts other valid circles m.outer m.outer_are) k low

    step_low : (n : ℕ) → n < length scan.rows → at_place m.steps (number_of found.numbers n) ≤ their_step n
    step_low n low =
        let inside = edge_inside found.sets (number_of found.numbers n) n ((m.parts.found_are.members n (number_of found.numbers n)).1 (low, refl)) in
        let count = m.parts.margins_are.count in
        let least = component_step (number_of found.numbers n) (omega (arith, inside, count)) in
        let mine = step_is p sound join scan found height made margins m.parts other valid circles n low in
        omega (arith, least, mine)

    step_least : (x : Node) (a b : SettlingLine) → IsLineOf p certificate x a → IsLineOf p other x b → a.step ≤ b.step
    step_least x a b of_a of_b =
        let n = stands p sound join certificate scan found height made margins leads m x a of_a in
        let low = step_low n.place (low_of p sound join scan found height made margins m.parts x n.place n.at) in
        let theirs = level_is p sound join scan found height made margins m.parts other valid circles (λ (l : SettlingLine). l.step) n.place x n.at b of_b in
        let ours = n.for.stepped in
        omega (arith, low, theirs, ours)

    top_least : certificate.step ≤ other.step
    top_least =
        elim m.step.met [
          | inl none ↦ omega (arith, none)
          | inr at ↦
              let count = m.steps_are.count in
              let inside = at.1 in
              let least = component_step at.0 (omega (arith, count, inside)) in
              let top = step_of_top p sound join scan found height made margins m.parts other valid circles at.0 in
              let e = at.2 in
              omega (arith, least, top, e)
        ]

    module _ (no_higher : HasNoHigher p certificate other) where
      flat : (n : ℕ) → n < length scan.rows → their_step n ≤ at_place m.steps (number_of found.numbers n)
      flat n low =
          let x = node_there p sound join scan found height made margins m.parts n low in
          let line = each_node p sound join certificate scan found height made margins leads m x.0 (n, x.1) in
          let own = stands p sound join certificate scan found height made margins leads m x.0 line.0 line.1 in
          let there = valid.each_node x.0 (n, x.1) in
          let less = no_higher x.0 line.0 there.0 line.1 there.1 in
          let theirs = level_is p sound join scan found height made margins m.parts other valid circles (λ (l : SettlingLine). l.step) n x.0 x.1 there.0 there.1 in
          let same : own.place ≡ n = one_number p x.0 own.place n own.at x.1 in
          let ours = own.for.stepped in
          let e = ap (λ (k : ℕ). at_place m.steps (number_of found.numbers k)) same in
          omega (arith, less, theirs, ours, e)

      rank_low : (n : ℕ) → n < length scan.rows → at_place m.ranks n ≤ their_rank n
      rank_low n low = m.ranks_are.least their_rank (ranks_fit p sound join scan found height made margins m.parts other valid circles m.outer m.outer_are m.steps m.steps_are flat) n low

      rank_least : (x : Node) (a b : SettlingLine) → IsLineOf p certificate x a → IsLineOf p other x b → a.rank ≤ b.rank
      rank_least x a b of_a of_b =
          let n = stands p sound join certificate scan found height made margins leads m x a of_a in
          let low = rank_low n.place (low_of p sound join scan found height made margins m.parts x n.place n.at) in
          let theirs = level_is p sound join scan found height made margins m.parts other valid circles (λ (l : SettlingLine). l.rank) n.place x n.at b of_b in
          let ours = n.for.ranked in
          omega (arith, low, theirs, ours)

      bound_least : certificate.bound ≤ other.bound
      bound_least =
          elim m.bound.least [
            | inl none ↦ omega (arith, none)
            | inr at ↦
                let count = m.ranks_are.count in
                let inside = at.1 in
                let low : at.0 < length scan.rows = omega (arith, count, inside) in
                let least = rank_low at.0 low in
                let top = rank_top p sound join scan found height made margins m.parts other valid circles at.0 low in
                let e = at.2 in
                omega (arith, least, top, e)
          ]

  pub is_least : IsLeast p certificate
  is_least = record {
    circles = has_circles;
    steps = λ other valid circles. step_least other valid circles;
    step = λ other valid circles. top_least other valid circles;
    ranks = λ other valid circles no_higher. rank_least other valid circles no_higher;
    bound = λ other valid circles no_higher. bound_least other valid circles no_higher;
  }

pub made_least : (p : Loaded) → IsSound p → EdgesJoinNodes p → (certificate : SettlingCertificate) → IsMade p certificate → IsLeast p certificate
made_least p sound join certificate is = is_least p sound join certificate is.scan is.found is.height is.sets is.margins is.leads is.of

pub least_of : (p : Loaded) → IsSound p → EdgesJoinNodes p → (result : Result SettlingCertificate Why) → Makes p result → MakesLeast p result
least_of p sound join (Ok certificate) makes = made_least p sound join certificate makes.1
least_of p sound join (Err why) makes = tt
