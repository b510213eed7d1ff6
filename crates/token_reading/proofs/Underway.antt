-- A rule that is read in part.
use Rattle.std.proofs.Common.{◌≡◌, List}
use Rattle.texts.specs.declared.token.Token.{Token}

-- no tokens from here on are a reading of the rule, and what may follow it
abbrev pub None : {R : Type 0} → (R → List Token → List Token) → (List Token → Type 0) → List Token → Type 0
None {R} spell Ends now = (r : R) (rest : List Token) → Ends rest → now ≡ spell r rest → ⊥

-- From `before` on, a part of a rule is read, whose value is `left`. `goes_on`: with what more is read from `now` on, it
-- is the rule. `all`: each reading of the rule goes on so.
pub record Underway {R M A : Type 0} (spell : R → List Token → List Token) (tree : R → A) (Ends : List Token → Type 0) (more : M → List Token → List Token) (tree_more : M → A → A) (before : List Token) (left : A) (now : List Token) : Type 0 where
  pub goes_on : (m : M) (rest : List Token) → now ≡ more m rest → (r : R) × (before ≡ spell r rest) × (tree r ≡ tree_more m left)
  pub all : (r : R) (rest : List Token) → Ends rest → before ≡ spell r rest → (m : M) × (now ≡ more m rest)
