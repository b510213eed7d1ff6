-- Classes in groups.
use Rattle.std.proofs.Common.{◌≡◌, ℕ, zero, suc, ◌+◌, ◌*◌, ◌/◌, ◌%◌, ◌≤◌, ◌<◌, ◌↔◌, ◌||◌, ◌==◌, true, inl, inr, List, [], ◌∷◌, ◌++◌, length, get_or, take, refl, sym, ap, ◌∙◌, subst, arith}
use Rattle.std.specs.List.{Contains, AllZip}
use Rattle.std.proofs.lemmas.Bool.{or_cases, or_left, or_right, eqb-true, eq-eqb}
use Rattle.std.proofs.lemmas.List.{get_or_past, take_more, take_all}
use Rattle.std.proofs.lemmas.List.Elements.{Contains-push, Contains-push_cases, Contains-append_left}
use Rattle.std.proofs.lemmas.Option.{none-some, same_Some}
use Rattle.effect_scan.specs.Rows.{row, Edge}
use Rattle.rank_graph.specs.declared.bits.TheConstants.{SIZE}
use Rattle.rank_graph.specs.declared.bits.Bits.{Bits}
use Rattle.rank_graph.specs.declared.path.NodeRank.{NodeRank}
use Rattle.rank_graph.specs.declared.solution.Solution.{Solution}
use Rattle.rank_graph.specs.Bits.{has}
use Rattle.rank_graph.specs.Entries.{owns}
use Rattle.rank_graph.specs.Groups.{HasGroup, AreGroup, IsGroup}
use Rattle.rank_graph.specs.Solutions.{AreRanks, AreClasses, entries_of, rank_of, leads_of}
use Rattle.rank_graph.proofs.Ranking.{ranks_found, classes_found}

-- ---- one node's classes

-- the place and the group of a class tell it
pub class_of_place : (x k c : ℕ) → x / SIZE ≡ k → c ≡ x % SIZE → x ≡ SIZE * k + c
class_of_place x k c is place = omega arith

pub place_of_class : (x k c : ℕ) → c < SIZE → x ≡ SIZE * k + c → (x / SIZE ≡ k) × (c ≡ x % SIZE)
place_of_class x k c low e = (omega arith, omega arith)

pub group_more : (k x : ℕ) (xs : List ℕ) (s t : Bits) → x / SIZE ≡ k → ((c : ℕ) → has t c ≡ (has s c || c == x % SIZE)) → HasGroup k xs s → HasGroup k (xs ++ x ∷ []) t
group_more k x xs s t is both h = λ c low. (
  λ e.
      elim (or_cases (has s c) (c == x % SIZE) (sym (both c) ∙ e)) [
        | inl old ↦ Contains-append_left xs (x ∷ []) (SIZE * k + c) ((h c low).0 old)
        | inr new ↦ subst (λ (y : ℕ). Contains (xs ++ x ∷ []) y) (class_of_place x k c is (eqb-true c (x % SIZE) new)) (Contains-push xs x)
      ],
  λ held.
      elim (Contains-push_cases xs x (SIZE * k + c) held) [
        | inl old ↦ both c ∙ or_left (has s c) (c == x % SIZE) ((h c low).1 old)
        | inr new ↦ both c ∙ or_right (has s c) (c == x % SIZE) (eq-eqb c (x % SIZE) (place_of_class x k c low new).1)
      ],
)

pub group_other : (k x : ℕ) (xs : List ℕ) (s : Bits) → (x / SIZE ≡ k → ⊥) → HasGroup k xs s → HasGroup k (xs ++ x ∷ []) s
group_other k x xs s is h = λ c low. (
  λ e. Contains-append_left xs (x ∷ []) (SIZE * k + c) ((h c low).0 e),
  λ held. elim (Contains-push_cases xs x (SIZE * k + c) held) [ inl old ↦ (h c low).1 old | inr new ↦ absurd (is (place_of_class x k c low new).0) ],
)

-- what holds of the first of them and the next one
pub group_taken : (k i : ℕ) (xs : List ℕ) (s : Bits) → i < length xs → HasGroup k (take i xs ++ get_or xs i 0 ∷ []) s → HasGroup k (take (i + 1) xs) s
group_taken k i xs s within h = subst (λ (l : List ℕ). HasGroup k l s) (sym (take_more xs i 0 within)) h

-- ---- the classes of all nodes
pub group_members : (k : ℕ) (own : List (List ℕ)) (bits : List Bits) → AllZip (HasGroup k) own bits → (a c : ℕ) → c < SIZE → owns bits a c ↔ Edge own a (SIZE * k + c)
unfolding owns row
group_members k [] [] z a c low = (λ o. absurd (none-some o.0 o.1), λ e. absurd (omega (arith, e.1)))
group_members k [] (s ∷ ss) z a c low = absurd z
group_members k (r ∷ rs) [] z a c low = absurd z
group_members k (r ∷ rs) (s ∷ ss) z zero c low =
    (λ o. (z.0 c low).0 (subst (λ (t : Bits). has t c ≡ true) (sym (same_Some _ _ o.1)) o.2), λ e. (s, refl, (z.0 c low).1 e))
group_members k (r ∷ rs) (s ∷ ss) z (suc a) c low = group_members k rs ss z.1 a c low

pub group_count : (k : ℕ) (own : List (List ℕ)) (bits : List Bits) → AllZip (HasGroup k) own bits → length bits ≡ length own
group_count k [] [] z = refl
group_count k [] (s ∷ ss) z = absurd z
group_count k (r ∷ rs) [] z = absurd z
group_count k (r ∷ rs) (s ∷ ss) z = ap suc (group_count k rs ss z.1)

-- one node more
pub zip_push : (k : ℕ) (xs : List (List ℕ)) (ys : List Bits) (x : List ℕ) (y : Bits) → AllZip (HasGroup k) xs ys → HasGroup k x y → AllZip (HasGroup k) (xs ++ x ∷ []) (ys ++ y ∷ [])
zip_push k [] [] x y z h = (h, tt)
zip_push k [] (s ∷ ss) x y z h = absurd z
zip_push k (r ∷ rs) [] x y z h = absurd z
zip_push k (r ∷ rs) (s ∷ ss) x y z h = (z.0, zip_push k rs ss x y z.1 h)

pub zip_more : (k i : ℕ) (xs : List (List ℕ)) (r seen : List ℕ) (ys zs : List Bits) (y : Bits) → i < length xs → r ≡ get_or xs i r → seen ≡ r → HasGroup k seen y → zs ≡ ys ++ y ∷ [] → AllZip (HasGroup k) (take i xs) ys → AllZip (HasGroup k) (take (i + 1) xs) zs
zip_more k i xs r seen ys zs y inside is same held pushed z =
    let here : HasGroup k (get_or xs i r) y = subst (λ (l : List ℕ). HasGroup k l y) (same ∙ is) held in
    let more : AllZip (HasGroup k) (take i xs ++ get_or xs i r ∷ []) (ys ++ y ∷ []) = zip_push k (take i xs) ys (get_or xs i r) y z here in
    let taken : AllZip (HasGroup k) (take (i + 1) xs) (ys ++ y ∷ []) = subst (λ (l : List (List ℕ)). AllZip (HasGroup k) l (ys ++ y ∷ [])) (sym (take_more xs i r inside)) more in
    subst (AllZip (HasGroup k) (take (i + 1) xs)) (sym pushed) taken

pub are_group : (k : ℕ) (own : List (List ℕ)) (bits : List Bits) → AllZip (HasGroup k) own bits → AreGroup k own bits
are_group k own bits z = record { len = group_count k own bits z; members = λ a c low. group_members k own bits z a c low }

pub are_group_all : (k n : ℕ) (own : List (List ℕ)) (bits : List Bits) → length own ≤ n → AllZip (HasGroup k) (take n own) bits → AreGroup k own bits
are_group_all k n own bits end z = are_group k own bits (subst (λ (l : List (List ℕ)). AllZip (HasGroup k) l bits) (take_all n own end) z)

-- ---- all groups
pub record Grouped (rows own : List (List ℕ)) (n : ℕ) (groups : List (List NodeRank)) : Type 0 where
  pub count : length groups ≡ n
  pub each : (k : ℕ) → k < n → IsGroup rows own k (get_or groups k [])

pub ranks_of_groups : (rows own : List (List ℕ)) (n : ℕ) (s : Solution) (groups : List (List NodeRank)) → s.groups ≡ groups → 0 < n → Grouped rows own n groups → AreRanks rows (rank_of s)
unfolding entries_of
ranks_of_groups rows own n s groups e some g =
    let whole = subst (Grouped rows own n) (sym e) g in ranks_found rows own s (whole.each 0 some)

pub classes_of_groups : (rows own : List (List ℕ)) (n : ℕ) (s : Solution) (groups : List (List NodeRank)) (classes : ℕ) → s.groups ≡ groups → n ≡ classes / SIZE + 1 → ((a c : ℕ) → Edge own a c → c < classes) → Grouped rows own n groups → AreClasses rows own (leads_of s)
unfolding entries_of
classes_of_groups rows own n s groups classes e all small g =
    let whole = subst (Grouped rows own n) (sym e) g in
    classes_found rows own s classes small (λ k h. whole.each k (omega arith)) (λ k past. get_or_past s.groups k [] (omega (arith, whole.count)))
