-- Whether a list of numbers has one, as a slice's `contains` answers.
use Rattle.std.proofs.Common.{◌≡◌, ℕ, true, List, get_or, subst, eqb}
use Rattle.std.specs.List.{Contains, list_any}
use Rattle.std.proofs.lemmas.Bool.{eqb-true, eq-eqb}
use Rattle.std.proofs.lemmas.List.Folds.{Any-from_list_any, list_any_at}

pub has_any : (q : ℕ) (xs : List ℕ) → list_any (λ y. eqb y q) xs ≡ true → Contains xs q
has_any q xs h = let a = Any-from_list_any (λ (y : ℕ). eqb y q) xs h in subst (λ (y : ℕ). Contains xs y) (eqb-true a.1 q a.4) (a.0, a.2, a.3)

pub any_has : (q : ℕ) (xs : List ℕ) → Contains xs q → list_any (λ y. eqb y q) xs ≡ true
any_has q xs h = list_any_at (λ (y : ℕ). eqb y q) xs h.0 q h.1 (eq-eqb (get_or xs h.0 q) q h.2)
