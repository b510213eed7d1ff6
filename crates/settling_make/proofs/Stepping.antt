-- The greatest of values, and the least steps of components, one after another.
use Rattle.std.proofs.Common.{◌≡◌, inl, inr, ℕ, ◌+◌, ◌<◌, ◌≤◌, List, [], ◌∷◌, ◌++◌, length, take, get_or, refl, sym, ap, ◌∙◌, subst, arith}
use Rattle.std.proofs.lemmas.Bool.{cases_eq, cases_lt}
use Rattle.std.proofs.lemmas.List.{take_all, length_push, get_or_append_left, get_or_push, get_or_past, get_or_default}
use Rattle.effect_scan.specs.Rows.{row, Edge}
use Rattle.rank_graph.proofs.Driving.{edge_inside}
use Rattle.token_reading.specs.Literals.{greatest}
use Rattle.settling_make.specs.declared.margin.Margin.{Margin}
use Rattle.settling_make.specs.Fits.{no_margin, margin_of, at_place, FitSteps, AreLeastSteps, StepsAreHigh}
use Rattle.settling_make.specs.Ranking.{IsHighest}
use Rattle.settling_make.proofs.Taking.{one_of, before_too, one_more, none_taken}

-- ---- the greatest
module _ (values places : List ℕ) where
  pub highest_none : IsHighest values (take 0 places) 0
  highest_none = record { above = λ b h. absurd (none_taken places b h); met = inl refl }

  module _ (i h : ℕ) (more : i < length places) (was : IsHighest values (take i places) h) where
    pub highest_up : (value : ℕ) → value ≡ at_place values (get_or places i 0) → h < value → IsHighest values (take (i + 1) places) value
    highest_up value is up = record {
      above = λ b held.
          elim (one_of places i more b held) [
            | inl old ↦ let low = was.above b old in omega (arith, low, up)
            | inr same ↦ let e = ap (at_place values) same in omega (arith, e, is)
          ];
      met = inr (get_or places i 0, one_more places i more, sym is);
    }

    pub highest_kept : at_place values (get_or places i 0) ≤ h → IsHighest values (take (i + 1) places) h
    highest_kept low = record {
      above = λ b held.
          elim (one_of places i more b held) [
            | inl old ↦ was.above b old
            | inr same ↦ let e = ap (at_place values) same in omega (arith, e, low)
          ];
      met = elim was.met [
        | inl none ↦ inl none
        | inr at ↦ inr (at.0, before_too places i more at.0 at.1, at.2)
      ];
    }

  pub highest_all : (i h : ℕ) → length places ≤ i → IsHighest values (take i places) h → IsHighest values places h
  highest_all i h past is = subst (λ (l : List ℕ). IsHighest values l h) (take_all i places past) is

-- ---- steps
-- the steps of the first components
pub record StepsTo (outer : List (List ℕ)) (margins : List Margin) (end : ℕ) (steps : List ℕ) : Type 0 where
  pub count : length steps ≡ end
  pub leaves : (k j : ℕ) → k < end → Edge outer k j → at_place steps j + (margin_of margins k).cost ≤ at_place steps k
  pub enough : (k : ℕ) → k < end → (margin_of margins k).cost ≤ at_place steps k
  pub low : (k : ℕ) → at_place steps k ≤ greatest
  pub least : (other : ℕ → ℕ) → FitSteps outer margins other → (k : ℕ) → k < end → at_place steps k ≤ other k

module _ (outer : List (List ℕ)) (margins : List Margin) (falls : (k j : ℕ) → Edge outer k j → j < k) where
  pub steps_none : (steps : List ℕ) → steps ≡ [] → StepsTo outer margins 0 steps
  steps_none steps empty = record {
    count = ap (λ (l : List ℕ). length l) empty;
    leaves = λ k j low edge. absurd (omega (arith, low));
    enough = λ k low. absurd (omega (arith, low));
    low = λ k. let e = ap (λ (l : List ℕ). get_or l k 0) empty ∙ get_or_past {X = ℕ} [] k 0 (omega arith) in omega (arith, e);
    least = λ other fit k low. absurd (omega (arith, low));
  }

  module _ (end : ℕ) (more : end < length margins) (steps : List ℕ) (was : StepsTo outer margins end steps) (highest : ℕ) (is : IsHighest steps (row outer end) highest) where
    -- none that fits is lower
    lower : (other : ℕ → ℕ) → FitSteps outer margins other → highest + (margin_of margins end).cost ≤ other end
    lower other fit =
        elim is.met [
          | inl none ↦ let enough = fit.enough end more in omega (arith, none, enough)
          | inr at ↦
              let down = falls end at.0 at.1 in
              let low = was.least other fit at.0 down in
              let leaves = fit.leaves end at.0 at.1 in
              let e = at.2 in
              omega (arith, low, leaves, e)
        ]

    -- what the component asks, as it is read
    read : (d : Margin) → (get_or margins end d).cost ≡ (margin_of margins end).cost
    read d = ap (λ (m : Margin). m.cost) (get_or_default margins end d no_margin more)

    pub steps_high : (d : Margin) → greatest < highest + (get_or margins end d).cost → StepsAreHigh outer margins
    steps_high d high other fit = (end, more, (let low = lower other fit in let e = read d in omega (arith, low, high, e)))

    module _ (step : ℕ) (d : Margin) (given : step ≡ highest + (get_or margins end d).cost) (small : step ≤ greatest) (after : List ℕ) (pushed : after ≡ steps ++ step ∷ []) where
      sum : step ≡ highest + (margin_of margins end).cost
      sum = let e = read d in omega (arith, given, e)

      old : (k : ℕ) → k < end → at_place after k ≡ at_place steps k
      old k low = ap (λ (l : List ℕ). get_or l k 0) pushed ∙ get_or_append_left steps (step ∷ []) 0 k (let c = was.count in omega (arith, c, low))

      new : at_place after end ≡ step
      new = ap (λ (l : List ℕ). get_or l end 0) pushed ∙ get_or_push steps step 0 end was.count

      now_count : length after ≡ end + 1
      now_count = let sum_ = length_push steps step in let e = ap (λ (l : List ℕ). length l) pushed in let c = was.count in omega (arith, sum_, e, c)

      pub steps_more : StepsTo outer margins (end + 1) after
      steps_more = record {
        count = now_count;
        leaves = λ k j low edge.
            let down = falls k j edge in
            let from = old j in
            elim (cases_eq k end) [
              | inl same ↦
                  let here : at_place after k ≡ step = ap (at_place after) same ∙ new in
                  let high = is.above j (subst (λ (n : ℕ). Edge outer n j) same edge) in
                  let cost = ap (λ (n : ℕ). (margin_of margins n).cost) same in
                  let there = from (omega (arith, down, same)) in
                  omega (arith, here, high, cost, there, sum)
              | inr other ↦
                  let before : k < end = omega (arith, low, other) in
                  let here = old k before in
                  let there = from (omega (arith, down, before)) in
                  let was_ = was.leaves k j before edge in
                  omega (arith, here, there, was_)
            ];
        enough = λ k low.
            elim (cases_eq k end) [
              | inl same ↦
                  let here : at_place after k ≡ step = ap (at_place after) same ∙ new in
                  let cost = ap (λ (n : ℕ). (margin_of margins n).cost) same in
                  omega (arith, here, cost, sum)
              | inr other ↦
                  let before : k < end = omega (arith, low, other) in
                  let here = old k before in
                  let was_ = was.enough k before in
                  omega (arith, here, was_)
            ];
        low = λ k.
            elim (cases_lt k end) [
              | inl before ↦ let here = old k before in let was_ = was.low k in omega (arith, here, was_)
              | inr late ↦ elim (cases_eq k end) [
                | inl same ↦ let here : at_place after k ≡ step = ap (at_place after) same ∙ new in omega (arith, here, small)
                | inr past ↦ let here : at_place after k ≡ 0 = get_or_past after k 0 (let c = now_count in omega (arith, c, late, past)) in omega (arith, here)
              ]
            ];
        least = λ other fit k low.
            elim (cases_eq k end) [
              | inl same ↦
                  let here : at_place after k ≡ step = ap (at_place after) same ∙ new in
                  let down = lower other fit in
                  let e = ap other same in
                  omega (arith, here, down, e, sum)
              | inr apart ↦
                  let before : k < end = omega (arith, low, apart) in
                  let here = old k before in
                  let was_ = was.least other fit k before in
                  omega (arith, here, was_)
            ];
      }

  pub steps_all : (end : ℕ) (steps : List ℕ) → length outer ≡ length margins → length margins ≤ end → end ≤ length margins → StepsTo outer margins end steps → AreLeastSteps outer margins steps
  steps_all end steps count past inside to = record {
    count = let c = to.count in omega (arith, c, past, inside);
    fit = record {
      leaves = λ k j edge. to.leaves k j (let low = edge_inside outer k j edge in omega (arith, low, count, past)) edge;
      enough = λ k low. to.enough k (omega (arith, low, past));
    };
    low = to.low;
    least = λ other fit k low. to.least other fit k (omega (arith, low, past));
  }
