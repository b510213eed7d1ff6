-- Lists with more elements, and what holds of each element.
use Rattle.std.proofs.Common.{◌≡◌, ℕ, zero, suc, Bool, true, false, cond, List, [], ◌∷◌, ◌++◌, Some, slice_get}
use Rattle.std.specs.List.{AllByRecursion, filter}

pub get-append : {X : Type 0} (xs ys : List X) (k : ℕ) (x : X) → slice_get xs k ≡ Some x → slice_get (xs ++ ys) k ≡ Some x
get-append [] ys k x e = absurd (cc e)
get-append (y ∷ xs) ys zero x e = e
get-append (y ∷ xs) ys (suc k) x e = get-append xs ys k x e

pub all-snoc : {X : Type 0} (P : X → Type 0) (xs : List X) (x : X) → AllByRecursion P xs → P x → AllByRecursion P (xs ++ x ∷ [])
all-snoc P [] x all p = (p, tt)
all-snoc P (y ∷ ys) x all p = (all.0, all-snoc P ys x all.1 p)

pub all-append : {X : Type 0} (P : X → Type 0) (xs ys : List X) → AllByRecursion P xs → AllByRecursion P ys → AllByRecursion P (xs ++ ys)
all-append P [] ys all more = more
all-append P (x ∷ xs) ys all more = (all.0, all-append P xs ys all.1 more)

pub all-weaken : {X : Type 0} (P Q : X → Type 0) (xs : List X) → ((x : X) → P x → Q x) → AllByRecursion P xs → AllByRecursion Q xs
all-weaken P Q [] f all = tt
all-weaken P Q (x ∷ xs) f all = (f x all.0, all-weaken P Q xs f all.1)

pub all-filtered : {X : Type 0} (P : X → Type 0) (test : X → Bool) (xs : List X) → AllByRecursion P xs → AllByRecursion P (filter test xs)
all-filtered P test [] all = tt
all-filtered {X} P test (x ∷ xs) all = by_test (test x) (all-filtered P test xs all.1)
  where
    by_test : (b : Bool) → AllByRecursion P (filter test xs) → AllByRecursion P (cond b (x ∷ filter test xs) (filter test xs))
    by_test true rest = (all.0, rest)
    by_test false rest = rest
