-- Rows of truth values that tell of which classes a class is one or below one.
use Rattle.std.proofs.Common.{◌≡◌, ◌↔◌, inl, inr, ℕ, zero, suc, ◌+◌, ◌<◌, ◌≤◌, Bool, true, false, List, [], ◌∷◌, ◌++◌, length, get_or, slice_get, Some, None, refl, sym, ap, ◌∙◌, subst, arith}
use Rattle.std.proofs.lemmas.Option.{none-some, same_Some}
use Rattle.program_flaws.specs.declared.warned.lineage.Lineage.{Lineage}
use Rattle.program_flaws.specs.Wires.{IsLineageOf}
use Rattle.std.proofs.lemmas.Bool.{cases_eq, cases_lt}
use Rattle.std.proofs.lemmas.List.{length-append, get_or_past, get_or_append_left}
use Rattle.std.proofs.Math.Seq.{get_or-append_seam}
use Rattle.meta_model.specs.Members.{Below}
use Rattle.meta_model.specs.Loaded.{Loaded}
use Rattle.effect_scan.proofs.Relating.{marks_inside, below_first, below_last}
use Rattle.class_sets.specs.Marks.{IsMarked}
use Rattle.effect_scan.specs.code.Relations.{marks_of, Holds}

-- the row has the first numbers, and those with P are marked
pub record Tells (P : ℕ → Type 0) (end : ℕ) (row : List Bool) : Type 0 where
  pub count : length row ≡ end
  pub marks : (d : ℕ) → IsMarked row d ↔ ((d < end) × P d)

pub unmarked-past : (row : List Bool) (d : ℕ) → length row ≤ d → ¬ IsMarked row d
unmarked-past row d past h = let bad : false ≡ true = sym (get_or_past row d false past) ∙ h in cc

pub tells-none : (P : ℕ → Type 0) → Tells P 0 []
tells-none P = record { count = refl; marks = λ d. (λ h. absurd (unmarked-past [] d (omega arith) h), λ h. let low = h.0 in absurd (omega arith)) }

pub tells-more : (P : ℕ → Type 0) (end : ℕ) (row more : List Bool) (b : Bool) → Tells P end row → (b ≡ true ↔ P end) → more ≡ row ++ b ∷ [] → Tells P (end + 1) more
tells-more P end row more b before told e =
    let size : length more ≡ length row + 1 = ap (λ (l : List Bool). length l) e ∙ length-append row (b ∷ []) in
    let count = before.count in
    record {
      count = omega (arith, size, count);
      marks = λ d.
          elim (cases_lt d (length row)) [
            | inl low ↦
                let at : get_or more d false ≡ get_or row d false = ap (λ (l : List Bool). get_or l d false) e ∙ get_or_append_left row (b ∷ []) false d low in (
                  λ h. let old = (before.marks d).0 (sym at ∙ h) in (omega arith, old.1),
                  λ h. at ∙ (before.marks d).1 (omega arith, h.1),
                )
            | inr past ↦
                elim (cases_eq d (length row)) [
                  | inl same ↦
                      let at : get_or more d false ≡ b = ap (λ (l : List Bool). get_or l d false) e ∙ ap (λ (k : ℕ). get_or (row ++ b ∷ []) k false) same ∙ get_or-append_seam row b [] false in
                      let place : d ≡ end = same ∙ count in (
                        λ h. (omega arith, subst P (sym place) (told.0 (sym at ∙ h))),
                        λ h. at ∙ told.1 (subst P place h.1),
                      )
                  | inr other ↦ (λ h. absurd (unmarked-past more d (omega (arith, size)) h), λ h. let low = h.0 in absurd (omega arith))
                ]
          ];
    }

-- a row for all classes
pub row-tells : (p : Loaded) (c : ℕ) (row : List Bool) → Tells (λ d. Below p c d) (length p.classes) row → (d : ℕ) → IsMarked row d ↔ Below p c d
row-tells p c row tells d = (λ h. ((tells.marks d).0 h).1, λ h. (tells.marks d).1 (below_last p c d h, h))

read-some : {X : Type 0} (xs : List X) (i : ℕ) (x d : X) → slice_get xs i ≡ Some x → get_or xs i d ≡ x
read-some [] i x d e = absurd (none-some x e)
read-some (y ∷ xs) zero x d e = same_Some _ _ e
read-some (y ∷ xs) (suc i) x d e = read-some xs i x d e

read-none : {X : Type 0} (xs : List X) (i : ℕ) (d : X) → slice_get xs i ≡ None → get_or xs i d ≡ d
read-none [] i d e = refl
read-none (y ∷ xs) zero d e = absurd (none-some y (sym e))
read-none (y ∷ xs) (suc i) d e = read-none xs i d e

module _ (p : Loaded) (lineage : Lineage) (is : IsLineageOf p lineage) where
  -- what the lineage has for two classes
  pub row-says : (c d : ℕ) (row : List Bool) (b : Bool) → slice_get lineage.rows c ≡ Some row → slice_get row d ≡ Some b → b ≡ true ↔ Below p c d
  unfolding marks_of
  row-says c d row b there at =
      let reads : get_or (marks_of lineage.rows c) d false ≡ b = ap (λ (l : List Bool). get_or l d false) (read-some lineage.rows c row [] there) ∙ read-some row d b false at in
      (λ h. (is.tells c d).0 (reads ∙ h), λ h. sym reads ∙ (is.tells c d).1 h)

  pub row-ends : (c d : ℕ) (row : List Bool) → slice_get lineage.rows c ≡ Some row → slice_get row d ≡ None → ¬ Below p c d
  unfolding marks_of
  row-ends c d row there past below =
      let reads : get_or (marks_of lineage.rows c) d false ≡ false = ap (λ (l : List Bool). get_or l d false) (read-some lineage.rows c row [] there) ∙ read-none row d false past in
      let bad : false ≡ true = sym reads ∙ (is.tells c d).1 below in
      cc

  pub rows-end : (c d : ℕ) → slice_get lineage.rows c ≡ None → ¬ Below p c d
  unfolding marks_of
  rows-end c d past below =
      let reads : get_or (marks_of lineage.rows c) d false ≡ false = ap (λ (l : List Bool). get_or l d false) (read-none lineage.rows c [] past) in
      let bad : false ≡ true = sym reads ∙ (is.tells c d).1 below in
      cc

-- the first rows, each of which tells of its class
pub record AreRows (p : Loaded) (end : ℕ) (rows : List (List Bool)) : Type 0 where
  pub count : length rows ≡ end
  pub tell : (c d : ℕ) → c < end → Holds rows c d ↔ Below p c d

pub rows-none : (p : Loaded) → AreRows p 0 []
rows-none p = record { count = refl; tell = λ c d low. absurd (omega (arith, low)) }

pub rows-more : (p : Loaded) (end : ℕ) (rows more : List (List Bool)) (row : List Bool) → AreRows p end rows → ((d : ℕ) → IsMarked row d ↔ Below p end d) → more ≡ rows ++ row ∷ [] → AreRows p (end + 1) more
unfolding marks_of
rows-more p end rows more row before told e =
    let count = before.count in
    let size : length more ≡ length rows + 1 = ap (λ (l : List (List Bool)). length l) e ∙ length-append rows (row ∷ []) in
    record {
      count = omega (arith, size, count);
      tell = λ c d low.
          elim (cases_lt c (length rows)) [
            | inl inside ↦
                let at : get_or more c [] ≡ get_or rows c [] = ap (λ (l : List (List Bool)). get_or l c []) e ∙ get_or_append_left rows (row ∷ []) [] c inside in (
                  λ h. (before.tell c d (omega arith)).0 (subst (λ (r : List Bool). IsMarked r d) at h),
                  λ h. subst (λ (r : List Bool). IsMarked r d) (sym at) ((before.tell c d (omega arith)).1 h),
                )
            | inr past ↦
                let same : c ≡ length rows = omega arith in
                let place : c ≡ end = same ∙ count in
                let at : get_or more c [] ≡ row = ap (λ (l : List (List Bool)). get_or l c []) e ∙ ap (λ (k : ℕ). get_or (rows ++ row ∷ []) k []) same ∙ get_or-append_seam rows row [] [] in (
                  λ h. subst (λ (k : ℕ). Below p k d) (sym place) ((told d).0 (subst (λ (r : List Bool). IsMarked r d) at h)),
                  λ h. subst (λ (r : List Bool). IsMarked r d) (sym at) ((told d).1 (subst (λ (k : ℕ). Below p k d) place h)),
                )
          ];
    }

pub lineage-is : (p : Loaded) (end : ℕ) (lineage : Lineage) → AreRows p end lineage.rows → end ≡ length p.classes → IsLineageOf p lineage
lineage-is p end lineage rows all = record {
  tells = λ c d. (
    λ h.
        let inside = marks_inside lineage.rows c d h in
        (rows.tell c d (omega (arith, rows.count))).0 h,
    λ h.
        let low = below_first p c d h in
        (rows.tell c d (omega arith)).1 h,
  );
}
