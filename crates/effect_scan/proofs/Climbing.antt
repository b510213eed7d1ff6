-- The classes above a class, and the rows of those that are below each.
use Rattle.std.proofs.Common.{◌≡◌, ◌⊎◌, inl, inr, ℕ, ◌+◌, ◌<◌, ◌≤◌, List, [], ◌∷◌, ◌++◌, length, replicate, Option, None, Some, refl, sym, ap, ◌∙◌, subst, arith}
use Rattle.std.specs.List.{Contains}
use Rattle.std.proofs.lemmas.Bool.{cases_eq}
use Rattle.std.proofs.lemmas.List.{length-replicate}
use Rattle.std.proofs.lemmas.List.Elements.{Contains-push, Contains-push_cases, Contains-append_left}
use Rattle.meta_model.specs.Loaded.{Loaded}
use Rattle.meta_model.specs.Members.{Below, same, under, base_of}
use Rattle.meta_model.proofs.OneAnswer.{below_base, below_none}
use Rattle.effect_scan.specs.Rows.{Edge}
use Rattle.effect_scan.specs.code.Adding.{Adds, Joins}
use Rattle.effect_scan.specs.code.NodePlaces.{AreJust, IsLineage}
use Rattle.effect_scan.proofs.Adding.{no_members, empty_edge, adds_none, adds_then, adds_same}
use Rattle.effect_scan.proofs.Relating.{is_class, below_first}

-- of the classes above this one those up to the one that was reached are found
pub record Climbing (p : Loaded) (class above : ℕ) (found : List ℕ) : Type 0 where
  pub inside : above < length p.classes
  pub right : (c : ℕ) → Contains found c → Below p class c
  pub rest : (c : ℕ) → Below p class c → Contains found c ⊎ Below p above c
  pub back : (c : ℕ) → Below p above c → Below p class c

pub climb_none : (p : Loaded) (class : ℕ) (found : List ℕ) → class < length p.classes → found ≡ [] → Climbing p class class found
climb_none p class found inside none = record {
  inside = inside;
  right = λ c held. absurd (no_members c (subst (λ (l : List ℕ). Contains l c) none held));
  rest = λ c below. inr below;
  back = λ c below. below;
}

module _ (p : Loaded) (class above : ℕ) (found more : List ℕ) (h : Climbing p class above found) (pushed : more ≡ found ++ above ∷ []) where
  is_above : Below p class above
  is_above = let k = is_class p above h.inside in h.back above (same k.1)

  rights : (c : ℕ) → Contains more c → Below p class c
  rights c held =
      elim (Contains-push_cases found above c (subst (λ (l : List ℕ). Contains l c) pushed held)) [
        | inl old ↦ h.right c old
        | inr here ↦ subst (λ (x : ℕ). Below p class x) here is_above
      ]

  rests : (c : ℕ) → Below p class c → Contains more c ⊎ (¬ (above ≡ c) × Below p above c)
  rests c below =
      elim (cases_eq above c) [
        | inl here ↦ inl (subst (λ (l : List ℕ). Contains l c) (sym pushed) (subst (λ (x : ℕ). Contains (found ++ above ∷ []) x) here (Contains-push found above)))
        | inr other ↦
            elim (h.rest c below) [
              | inl old ↦ inl (subst (λ (l : List ℕ). Contains l c) (sym pushed) (Contains-append_left found (above ∷ []) c old))
              | inr further ↦ inr (other, further)
            ]
      ]

  pub climb_on : (b : ℕ) → base_of p above ≡ Some b → b < above → Climbing p class b more
  climb_on b base low = record {
    inside = omega (arith, h.inside, low);
    right = rights;
    rest = λ c below. elim (rests c below) [ inl old ↦ inl old | inr further ↦ inr (below_base p above b c base further.0 further.1) ];
    back = λ c below. h.back c (under base below);
  }

  pub climb_end : base_of p above ≡ None → AreJust (Below p class) more
  climb_end base = λ c. (
    rights c,
    λ below. elim (rests c below) [ inl held ↦ held | inr further ↦ absurd (below_none p above c base further.0 further.1) ],
  )

-- ---- rows
module _ (p : Loaded) where
  pub lineage_none : (rows : List (List ℕ)) → Adds (λ c d. (d < 0) × Below p d c) rows rows
  lineage_none rows = adds_none (λ c d. (d < 0) × Below p d c) rows (λ c d h. omega (arith, h.0))

  pub lineage_more : (class : ℕ) (above : List ℕ) (first then last : List (List ℕ)) → AreJust (Below p class) above → Adds (λ c d. (d < class) × Below p d c) first then → Adds (Joins above (class ∷ [])) then last
      → Adds (λ c d. (d < class + 1) × Below p d c) first last
  lineage_more class above first then last just before now =
      adds_then (λ c d. (d < class) × Below p d c) (Joins above (class ∷ [])) (λ c d. (d < class + 1) × Below p d c) first then last before now
      (λ c d. (
        λ h.
            elim (cases_eq d class) [
              | inl here ↦ inr ((just c).1 (subst (λ (x : ℕ). Below p x c) here h.1), subst (λ (x : ℕ). Contains (class ∷ []) x) (sym here) (Contains-push [] class))
              | inr other ↦ inl (omega (arith, h.0, other), h.1)
            ],
        λ h.
            elim h [
              | inl old ↦ (omega (arith, old.0), old.1)
              | inr new ↦
                  elim (Contains-push_cases [] class d new.1) [
                    | inl none ↦ absurd (no_members d none)
                    | inr here ↦ (omega (arith, here), subst (λ (x : ℕ). Below p x c) here ((just c).0 new.0))
                  ]
            ],
      ))

  pub lineage_all : (n : ℕ) (before after : List (List ℕ)) → length p.classes ≤ n → Adds (λ c d. (d < n) × Below p d c) before after → Adds (λ c d. Below p d c) before after
  lineage_all n before after past adds =
      adds_same (λ c d. (d < n) × Below p d c) (λ c d. Below p d c) before after adds (λ c d. (λ below. let low = below_first p d c below in (omega arith, below), λ h. h.1))

  pub lineage_made : (n : ℕ) (empty after lineage : List (List ℕ)) → empty ≡ replicate n [] → n ≡ length p.classes → Adds (λ c d. Below p d c) empty after → lineage ≡ after → IsLineage p lineage
  lineage_made n empty after lineage none count adds is =
      let made : IsLineage p after = record {
        count = adds.count ∙ ap (λ (l : List (List ℕ)). length l) none ∙ length-replicate n [] ∙ count;
        members = λ c d. (
          λ h.
              elim ((adds.edges c d).0 h) [
                | inl old ↦ absurd (empty_edge n c d (subst (λ (l : List (List ℕ)). Edge l c d) none old))
                | inr below ↦ below
              ],
          λ below. (adds.edges c d).1 (inr below),
        );
      } in
      subst (λ (l : List (List ℕ)). IsLineage p l) (sym is) made
