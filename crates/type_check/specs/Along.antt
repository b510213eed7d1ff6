-- What is below a class is below those that it is below.
use Rattle.std.proofs.Common.{ℕ, List, subst}
use Rattle.meta_model.specs.Loaded.{Loaded}
use Rattle.meta_model.specs.Members.{Below, same, under}
use Rattle.type_check.specs.Naming.{BelowNamed}

pub below_along : (p : Loaded) (a b c : ℕ) → Below p a b → Below p b c → Below p a c
below_along p a b c (same is) next = next
below_along p a b c (under based first) next = under based (below_along p _ b c first next)

pub along : (p : Loaded) (a b c : List ℕ) → BelowNamed p a b → BelowNamed p b c → BelowNamed p a c
along p a b c first next = record {
  class = first.class;
  is_class = first.is_class;
  base = next.base;
  is_base = next.is_base;
  below = below_along p _ _ _ first.below (subst (λ k. Below p k next.base) (first.is_base.only next.class next.is_class.named) next.below);
}
