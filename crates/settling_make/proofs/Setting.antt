-- The sets that are made, one component after another.
use Rattle.std.proofs.Common.{◌≡◌, ◌⊎◌, inl, inr, ℕ, zero, suc, ◌+◌, ◌<◌, ◌≤◌, List, [], ◌∷◌, ◌++◌, length, take, get_or, slice_get, Option, Some, None, refl, sym, ap, ◌∙◌, subst, arith}
use Rattle.std.specs.List.{Contains}
use Rattle.std.proofs.lemmas.Bool.{cases_eq, cases_lt}
use Rattle.std.proofs.lemmas.List.{length_push, get_or_append_left, get_or_push, get_or_past}
use Rattle.std.proofs.lemmas.Option.{none-some, same_Some}
use Rattle.meta_model.specs.Loaded.{Loaded}
use Rattle.effect_scan.specs.Rows.{row}
use Rattle.effect_scan.proofs.Numbered.{get_either}
use Rattle.rank_check.specs.Entries.{place_at}
use Rattle.settling.specs.declared.certificate.SettlingSet.{SettlingSet}
use Rattle.settling_make.specs.declared.components.Components.{Components}
use Rattle.settling_make.specs.Sets.{HasInside, IsRound, IsSetOf, AreSetsTo, AreSetsOf}
use Rattle.settling_make.proofs.Taking.{one_of, one_more, none_taken, all_taken, taken_in}

-- ---- a round
-- the first of the nodes were looked at
pub record RoundTo (members : List ℕ) (height : ℕ → ℕ) (end round : ℕ) : Type 0 where
  pub above : (a : ℕ) → Contains (take end members) a → height a < round
  pub met : ((end ≡ 0) × (round ≡ 0)) ⊎ ((a : ℕ) × Contains members a × (height a + 1 ≡ round))

module _ (members : List ℕ) (height : ℕ → ℕ) where
  pub round_none : RoundTo members height 0 0
  round_none = record { above = λ a h. absurd (none_taken members a h); met = inl (refl, refl) }

  pub round_more : (end : ℕ) → end < length members → (round : ℕ) → RoundTo members height end round → (next h : ℕ) → h ≡ height (get_or members end 0) → round ≤ next → h < next
      → (next ≡ round) ⊎ (next ≡ h + 1) → RoundTo members height (end + 1) next
  round_more end more round was next h is least over from = record {
    above = λ a held.
        elim (one_of members end more a held) [
          | inl old ↦ let low = was.above a old in omega (arith, low, least)
          | inr same ↦ let e = ap height same in omega (arith, e, is, over)
        ];
    met = elim from [
      | inl e ↦ elim was.met [
        | inl none ↦ let none_ = none.1 in absurd (omega (arith, none_, e, over))
        | inr at ↦ inr (at.0, at.1, at.2 ∙ sym e)
      ]
      | inr e ↦ inr (get_or members end 0, taken_in members (end + 1) (get_or members end 0) (one_more members end more), ap (λ (n : ℕ). n + 1) (sym is) ∙ sym e)
    ];
  }

  pub round_all : (end round : ℕ) → length members ≤ end → 0 < length members → RoundTo members height end round → IsRound members height round
  round_all end round past some to = record {
    above = λ a h. to.above a (all_taken members end a past h);
    met = elim to.met [
      | inl none ↦ let e = none.0 in absurd (omega (arith, e, past, some))
      | inr at ↦ at
    ];
  }

-- ---- sets
module _ (p : Loaded) (rows : List (List ℕ)) (found : Components) (height : ℕ → ℕ) where
  pub sets_none : (sets : List SettlingSet) (places : List (Option ℕ)) → sets ≡ [] → places ≡ [] → AreSetsTo p rows found height 0 (record { sets = sets; places = places })
  sets_none sets places no_sets no_places = record {
    count = ap (λ (l : List (Option ℕ)). length l) no_places;
    none = λ k low. absurd (omega (arith, low));
    some = λ k i at. absurd (nothing k i at);
    is = λ k i set at. absurd (nothing k i at);
    inside = λ k i at. absurd (nothing k i at);
    each = λ i low. let e = ap (λ (l : List SettlingSet). length l) no_sets in absurd (omega (arith, low, e));
    apart = λ j k i at. absurd (nothing j i at);
  }
    where
      nothing : (k i : ℕ) → place_at places k ≡ Some i → ⊥
      nothing k i at = none-some i (sym (ap (λ (l : List (Option ℕ)). get_or l k None) no_places ∙ get_or_past {X = Option ℕ} [] k None (omega arith)) ∙ at)

  module _ (end : ℕ) (sets : List SettlingSet) (places after : List (Option ℕ)) (was : AreSetsTo p rows found height end (record { sets = sets; places = places })) (place : Option ℕ) (pushed : after ≡ places ++ place ∷ []) where
    -- what stands at a place now
    read : (k i : ℕ) → place_at after k ≡ Some i → (place_at places k ≡ Some i) ⊎ ((k ≡ end) × (place ≡ Some i))
    read k i at =
        let count = was.count in
        elim (cases_lt k end) [
          | inl before ↦ inl (sym (old k before) ∙ at)
          | inr late ↦ elim (cases_eq k end) [
            | inl same ↦ inr (same, sym (ap (place_at after) same ∙ new) ∙ at)
            | inr past ↦
                let sum = length_push places place in
                let e = ap (λ (l : List (Option ℕ)). length l) pushed in
                absurd (none-some i (sym (get_or_past after k None (omega (arith, sum, e, count, late, past))) ∙ at))
          ]
        ]
      where
        old : (k : ℕ) → k < end → place_at after k ≡ place_at places k
        old k low = ap (λ (l : List (Option ℕ)). get_or l k None) pushed ∙ get_or_append_left places (place ∷ []) None k (let c = was.count in omega (arith, c, low))

        new : place_at after end ≡ place
        new = ap (λ (l : List (Option ℕ)). get_or l end None) pushed ∙ get_or_push places place None end was.count

    kept : (k : ℕ) → k < end → place_at after k ≡ place_at places k
    kept k low = ap (λ (l : List (Option ℕ)). get_or l k None) pushed ∙ get_or_append_left places (place ∷ []) None k (let c = was.count in omega (arith, c, low))

    last : place_at after end ≡ place
    last = ap (λ (l : List (Option ℕ)). get_or l end None) pushed ∙ get_or_push places place None end was.count

    counted : length after ≡ end + 1
    counted = let sum = length_push places place in let e = ap (λ (l : List (Option ℕ)). length l) pushed in let c = was.count in omega (arith, sum, e, c)

    low_place : (k i : ℕ) → place_at places k ≡ Some i → k < end
    low_place k i at =
        elim (cases_lt k end) [
          | inl low ↦ low
          | inr late ↦ let c = was.count in absurd (none-some i (sym (get_or_past places k None (omega (arith, c, late))) ∙ at))
        ]

    pub sets_skip : place ≡ None → ¬ HasInside rows found.numbers end (row found.sets end) → AreSetsTo p rows found height (end + 1) (record { sets = sets; places = after })
    sets_skip is_none none_inside = record {
      count = counted;
      none = λ k low at.
          elim (cases_eq k end) [
            | inl same ↦ subst (λ (n : ℕ). ¬ HasInside rows found.numbers n (row found.sets n)) (sym same) none_inside
            | inr other ↦ let before : k < end = omega (arith, low, other) in was.none k before (sym (kept k before) ∙ at)
          ];
      some = λ k i at. was.some k i (earlier k i at);
      is = λ k i set at. was.is k i set (earlier k i at);
      inside = λ k i at. was.inside k i (earlier k i at);
      each = λ i low. let at = was.each i low in (at.0, kept at.0 (low_place at.0 i at.1) ∙ at.1);
      apart = λ j k i at_j at_k. was.apart j k i (earlier j i at_j) (earlier k i at_k);
    }
      where
        earlier : (k i : ℕ) → place_at after k ≡ Some i → place_at places k ≡ Some i
        earlier k i at = elim (read k i at) [ inl old ↦ old | inr new ↦ absurd (none-some i (sym is_none ∙ new.1)) ]

    pub sets_add : (set : SettlingSet) (more : List SettlingSet) → place ≡ Some (length sets) → more ≡ sets ++ set ∷ [] → HasInside rows found.numbers end (row found.sets end)
        → IsSetOf p (row found.sets end) height set → AreSetsTo p rows found height (end + 1) (record { sets = more; places = after })
    sets_add set more here added has is = record {
      count = counted;
      none = λ k low at.
          elim (cases_eq k end) [
            | inl same ↦ absurd (none-some (length sets) (sym at ∙ ap (place_at after) same ∙ last ∙ here))
            | inr other ↦ let before : k < end = omega (arith, low, other) in was.none k before (sym (kept k before) ∙ at)
          ];
      some = λ k i at.
          elim (read k i at) [
            | inl old ↦ was.some k i old
            | inr new ↦ subst (λ (n : ℕ). HasInside rows found.numbers n (row found.sets n)) (sym new.0) has
          ];
      is = λ k i s at stands.
          elim (read k i at) [
            | inl old ↦
                let low = was.inside k i old in
                was.is k i s old (in_old i s low stands)
            | inr new ↦
                let number : length sets ≡ i = same_Some (length sets) i (sym here ∙ new.1) in
                let this : set ≡ s = in_new i s number stands in
                subst (λ (t : SettlingSet). IsSetOf p (row found.sets k) height t) this (subst (λ (n : ℕ). IsSetOf p (row found.sets n) height set) (sym new.0) is)
          ];
      inside = λ k i at.
          let sum = length_push sets set in
          let e = ap (λ (l : List SettlingSet). length l) added in
          elim (read k i at) [
            | inl old ↦ let low = was.inside k i old in omega (arith, sum, e, low)
            | inr new ↦ let number : length sets ≡ i = same_Some (length sets) i (sym here ∙ new.1) in omega (arith, sum, e, number)
          ];
      each = λ i low.
          elim (cases_lt i (length sets)) [
            | inl before ↦ let at = was.each i before in (at.0, kept at.0 (low_place at.0 i at.1) ∙ at.1)
            | inr late ↦
                let sum = length_push sets set in
                let e = ap (λ (l : List SettlingSet). length l) added in
                let number : length sets ≡ i = omega (arith, sum, e, low, late) in
                (end, last ∙ here ∙ ap (λ (n : ℕ). Some n) number)
          ];
      apart = λ j k i at_j at_k.
          elim (read j i at_j) [
            | inl old_j ↦ elim (read k i at_k) [
              | inl old_k ↦ was.apart j k i old_j old_k
              | inr new_k ↦
                  let low = was.inside j i old_j in
                  let number : length sets ≡ i = same_Some (length sets) i (sym here ∙ new_k.1) in
                  absurd (omega (arith, low, number))
            ]
            | inr new_j ↦ elim (read k i at_k) [
              | inl old_k ↦
                  let low = was.inside k i old_k in
                  let number : length sets ≡ i = same_Some (length sets) i (sym here ∙ new_j.1) in
                  absurd (omega (arith, low, number))
              | inr new_k ↦ new_j.0 ∙ sym new_k.0
            ]
          ];
    }
      where
        in_old : (i : ℕ) (s : SettlingSet) → i < length sets → slice_get more i ≡ Some s → slice_get sets i ≡ Some s
        in_old i s low stands =
            elim (get_either sets (set ∷ []) i s (subst (λ (l : List SettlingSet). slice_get l i ≡ Some s) added stands)) [
              | inl old ↦ old.1
              | inr new ↦ let far = new.1 in absurd (omega (arith, far, low))
            ]

        at_first : (i k : ℕ) (s : SettlingSet) → slice_get (set ∷ []) k ≡ Some s → set ≡ s
        at_first i zero s is_s = same_Some set s is_s
        at_first i (suc k) s is_s = absurd (none-some s is_s)

        in_new : (i : ℕ) (s : SettlingSet) → length sets ≡ i → slice_get more i ≡ Some s → set ≡ s
        in_new i s number stands =
            elim (get_either sets (set ∷ []) i s (subst (λ (l : List SettlingSet). slice_get l i ≡ Some s) added stands)) [
              | inl old ↦ let low = old.0 in absurd (omega (arith, low, number))
              | inr new ↦ at_first i new.0 s new.2
            ]

  pub sets_all : (end : ℕ) (sets : List SettlingSet) (places : List (Option ℕ)) → length found.sets ≤ end → end ≤ length found.sets
      → AreSetsTo p rows found height end (record { sets = sets; places = places }) → AreSetsOf p rows found height (record { sets = sets; places = places })
  sets_all end sets places past low to = subst (λ (n : ℕ). AreSetsTo p rows found height n (record { sets = sets; places = places })) (omega (arith, past, low)) to
