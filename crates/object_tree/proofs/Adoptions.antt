-- Lists of adoptions, and of the children that were adopted.
use Rattle.std.proofs.Common.{◌≡◌, ℕ, zero, suc, ◌+◌, not, cond, ltb, List, [], ◌∷◌, length, None, Some, option_map, refl, ap, sym, ◌∙◌, eqb}
use Rattle.std.specs.Prelude.{slice_get}
use Rattle.std.specs.List.{remove, position, position_or_len}
use Rattle.std.specs.Bool.{◌==◌}
use Rattle.object_tree.specs.declared.children.Adoption.{Adoption}
use Rattle.object_tree.specs.code.Adoptions.{adopted}

pub remove-adopted : (xs : List Adoption) (i : ℕ) → adopted (remove xs i) ≡ remove (adopted xs) i
remove-adopted [] zero = refl
remove-adopted [] (suc i) = refl
remove-adopted (x ∷ xs) zero = refl
remove-adopted (x ∷ xs) (suc i) = ap (λ (ks : List ℕ). x.child ∷ ks) (remove-adopted xs i)

pub get-adopted : (xs : List Adoption) (i : ℕ) → slice_get (adopted xs) i ≡ option_map (λ (a : Adoption). a.child) (slice_get xs i)
get-adopted [] i = refl
get-adopted (x ∷ xs) zero = refl
get-adopted (x ∷ xs) (suc i) = get-adopted xs i

pub length-adopted : (xs : List Adoption) → length (adopted xs) ≡ length xs
length-adopted [] = refl
length-adopted (x ∷ xs) = ap suc (length-adopted xs)

position_or_len-adopted : (c : ℕ) (xs : List Adoption) → position_or_len (λ (a : Adoption). eqb a.child c) xs ≡ position_or_len (λ k. eqb k c) (adopted xs)
position_or_len-adopted c [] = refl
position_or_len-adopted c (x ∷ xs) = ap (λ (n : ℕ). cond {A = ℕ} (not (eqb x.child c)) (1 + n) 0) (position_or_len-adopted c xs)

pub position-adopted : (c : ℕ) (xs : List Adoption) → position (λ (a : Adoption). a.child == c) xs ≡ position (λ k. k == c) (adopted xs)
position-adopted c xs =
    ap (λ (n : ℕ). cond (ltb n (length xs)) (Some n) None) (position_or_len-adopted c xs)
    ∙ ap (λ (m : ℕ). cond (ltb (position_or_len (λ k. eqb k c) (adopted xs)) m) (Some (position_or_len (λ k. eqb k c) (adopted xs))) None) (sym (length-adopted xs))
