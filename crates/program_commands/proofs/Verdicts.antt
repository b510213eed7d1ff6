-- A check answers one thing.
use Rattle.std.proofs.Common.{◌≡◌, ◌⊎◌, inl, inr, ℕ, zero, suc, ◌<◌, Result, Ok, Err, refl, sym, ap, ◌∙◌, arith}
use Rattle.std.proofs.lemmas.Bool.{cases_lt}
use Rattle.meta_model.specs.Loaded.{Loaded}
use Rattle.type_check.specs.Wires.{AreFitWires}
use Rattle.type_check.specs.Typed.{IsTypedProgram}
use Rattle.certificate_lang.specs.declared.certificate.Certificate.{Certificate}
use Rattle.rank_check.specs.declared.no.No.{No}
use Rattle.rank_check.specs.declared.no.No.TheVariants.{Wire, BodyType, Missing, Extra, Edge, Destroys, Bound, Memory}
use Rattle.rank_check.specs.Checks.{Checking, IsNo}
use Rattle.rank_check.specs.Valid.{HasEachNode, HasNothingElse, RanksFall, SetsHold, IsBounded, IsValid}
use Rattle.program_commands.specs.Laws.{OneVerdict}

-- the conditions, in the order of their nos
abbrev Condition : (A B D E F G H : Type 0) → ℕ → Type 0
Condition A B D E F G H zero = A
Condition A B D E F G H (suc zero) = B
Condition A B D E F G H (suc (suc zero)) = D
Condition A B D E F G H (suc (suc (suc zero))) = E
Condition A B D E F G H (suc (suc (suc (suc zero)))) = F
Condition A B D E F G H (suc (suc (suc (suc (suc zero))))) = G
Condition A B D E F G H (suc (suc (suc (suc (suc (suc k)))))) = H

-- this one is the first that fails
record IsFirst (Holds : ℕ → Type 0) (k : ℕ) : Type 0 where
  fails : ¬ Holds k
  before : (j : ℕ) → j < k → Holds j

one_first : (Holds : ℕ → Type 0) (j k : ℕ) → IsFirst Holds j → IsFirst Holds k → j ≡ k
one_first Holds j k h g =
    elim (cases_lt j k) [
      | inl low ↦ absurd (h.fails (g.before j low))
      | inr high ↦ elim (cases_lt k j) [ inl low ↦ absurd (g.fails (h.before k low)) | inr same ↦ omega arith ]
    ]

-- the no's condition doesn't hold, and those before it do; running out of memory says nothing
abbrev pub IsNoOf : (A B D E F G H : Type 0) → No → Type 0
IsNoOf A B D E F G H Wire = ¬ A
IsNoOf A B D E F G H BodyType = A × ¬ B
IsNoOf A B D E F G H Missing = A × B × ¬ D
IsNoOf A B D E F G H Extra = A × B × D × ¬ E
IsNoOf A B D E F G H Edge = A × B × D × E × ¬ F
IsNoOf A B D E F G H Destroys = A × B × D × E × F × ¬ G
IsNoOf A B D E F G H Bound = A × B × D × E × F × G × ¬ H
IsNoOf A B D E F G H Memory = Unit {0}

abbrev no_at : ℕ → No
no_at zero = Wire
no_at (suc zero) = BodyType
no_at (suc (suc zero)) = Missing
no_at (suc (suc (suc zero))) = Extra
no_at (suc (suc (suc (suc zero)))) = Edge
no_at (suc (suc (suc (suc (suc zero))))) = Destroys
no_at (suc (suc (suc (suc (suc (suc k)))))) = Bound

module _ (A B D E F G H : Type 0) where
  abbrev Holds : ℕ → Type 0
  Holds = Condition A B D E F G H

  below_1 : Holds 0 → (j : ℕ) → j < 1 → Holds j
  below_1 a zero h = a
  below_1 a (suc j) h = absurd (omega arith)

  below_2 : Holds 0 → Holds 1 → (j : ℕ) → j < 2 → Holds j
  below_2 a b zero h = a
  below_2 a b (suc zero) h = b
  below_2 a b (suc (suc j)) h = absurd (omega arith)

  below_3 : Holds 0 → Holds 1 → Holds 2 → (j : ℕ) → j < 3 → Holds j
  below_3 a b d zero h = a
  below_3 a b d (suc zero) h = b
  below_3 a b d (suc (suc zero)) h = d
  below_3 a b d (suc (suc (suc j))) h = absurd (omega arith)

  below_4 : Holds 0 → Holds 1 → Holds 2 → Holds 3 → (j : ℕ) → j < 4 → Holds j
  below_4 a b d e zero h = a
  below_4 a b d e (suc zero) h = b
  below_4 a b d e (suc (suc zero)) h = d
  below_4 a b d e (suc (suc (suc zero))) h = e
  below_4 a b d e (suc (suc (suc (suc j)))) h = absurd (omega arith)

  below_5 : Holds 0 → Holds 1 → Holds 2 → Holds 3 → Holds 4 → (j : ℕ) → j < 5 → Holds j
  below_5 a b d e f zero h = a
  below_5 a b d e f (suc zero) h = b
  below_5 a b d e f (suc (suc zero)) h = d
  below_5 a b d e f (suc (suc (suc zero))) h = e
  below_5 a b d e f (suc (suc (suc (suc zero)))) h = f
  below_5 a b d e f (suc (suc (suc (suc (suc j))))) h = absurd (omega arith)

  below_6 : Holds 0 → Holds 1 → Holds 2 → Holds 3 → Holds 4 → Holds 5 → (j : ℕ) → j < 6 → Holds j
  below_6 a b d e f g zero h = a
  below_6 a b d e f g (suc zero) h = b
  below_6 a b d e f g (suc (suc zero)) h = d
  below_6 a b d e f g (suc (suc (suc zero))) h = e
  below_6 a b d e f g (suc (suc (suc (suc zero)))) h = f
  below_6 a b d e f g (suc (suc (suc (suc (suc zero))))) h = g
  below_6 a b d e f g (suc (suc (suc (suc (suc (suc j)))))) h = absurd (omega arith)

  -- a no other than that memory ran out is that of the first condition that fails
  first_of : (answer : No) → IsNoOf A B D E F G H answer → (answer ≡ Memory) ⊎ ((k : ℕ) × (answer ≡ no_at k) × IsFirst Holds k)
  first_of Wire h = inr (0, refl, record { fails = h; before = λ j low. absurd (omega arith) })
  first_of BodyType h = inr (1, refl, record { fails = h.1; before = below_1 h.0 })
  first_of Missing h = inr (2, refl, record { fails = h.2; before = below_2 h.0 h.1 })
  first_of Extra h = inr (3, refl, record { fails = h.3; before = below_3 h.0 h.1 h.2 })
  first_of Edge h = inr (4, refl, record { fails = h.4; before = below_4 h.0 h.1 h.2 h.3 })
  first_of Destroys h = inr (5, refl, record { fails = h.5; before = below_5 h.0 h.1 h.2 h.3 h.4 })
  first_of Bound h = inr (6, refl, record { fails = h.6; before = below_6 h.0 h.1 h.2 h.3 h.4 h.5 })
  first_of Memory h = inl refl

  -- where all conditions hold, none fails
  all_hold : A → B → D → E → F → G → H → (k : ℕ) → Holds k
  all_hold a b d e f g h zero = a
  all_hold a b d e f g h (suc zero) = b
  all_hold a b d e f g h (suc (suc zero)) = d
  all_hold a b d e f g h (suc (suc (suc zero))) = e
  all_hold a b d e f g h (suc (suc (suc (suc zero)))) = f
  all_hold a b d e f g h (suc (suc (suc (suc (suc zero))))) = g
  all_hold a b d e f g h (suc (suc (suc (suc (suc (suc k)))))) = h

  pub none_fails : A → B → D → E → F → G → H → (answer : No) → IsNoOf A B D E F G H answer → answer ≡ Memory
  none_fails a b d e f g h answer is =
      elim (first_of answer is) [
        | inl memory ↦ memory
        | inr first ↦ absurd (first.2.fails (all_hold a b d e f g h first.0))
      ]

  pub one_no : (a b : No) → IsNoOf A B D E F G H a → IsNoOf A B D E F G H b → (a ≡ Memory) ⊎ (b ≡ Memory) ⊎ (a ≡ b)
  one_no a b h g =
      elim (first_of a h) [
        | inl memory ↦ inl memory
        | inr first ↦ elim (first_of b g) [
          | inl memory ↦ inr (inl memory)
          | inr second ↦ inr (inr (first.1 ∙ (ap no_at (one_first Holds first.0 second.0 first.2 second.2) ∙ sym second.1)))
        ]
      ]

-- ---- a check without steps
module _ (p : Loaded) (c : Certificate) where
  by_conditions : (answer : No) → IsNo p c answer →
      IsNoOf (AreFitWires p) (IsTypedProgram p) (HasEachNode p c) (HasNothingElse p c) (RanksFall p c) (SetsHold p c) (IsBounded c) answer
  by_conditions Wire h = h
  by_conditions BodyType h = h
  by_conditions Missing h = h
  by_conditions Extra h = h
  by_conditions Edge h = h
  by_conditions Destroys h = h
  by_conditions Bound h = h
  by_conditions Memory h = h

  valid_no : IsValid p c → (answer : No) → IsNo p c answer → answer ≡ Memory
  valid_no v answer h = none_fails (AreFitWires p) (IsTypedProgram p) (HasEachNode p c) (HasNothingElse p c) (RanksFall p c) (SetsHold p c) (IsBounded c) v.wires v.typed v.each_node v.nothing_else v.ranks v.sets v.bounded answer (by_conditions answer h)

  one_plain : (a b : No) → IsNo p c a → IsNo p c b → (a ≡ Memory) ⊎ (b ≡ Memory) ⊎ (a ≡ b)
  one_plain a b h g = one_no (AreFitWires p) (IsTypedProgram p) (HasEachNode p c) (HasNothingElse p c) (RanksFall p c) (SetsHold p c) (IsBounded c) a b (by_conditions a h) (by_conditions b g)

abbrev as_err : No → Result Checking No
as_err answer = Err answer

pub one_verdict : OneVerdict
one_verdict p c (Ok x) (Ok y) h g =
    inr (inr (
    ap (λ (q : Loaded). let z : Checking = record { program = q; certificate = x.certificate } in Ok z) (h.0 ∙ sym g.0)
    ∙ ap (λ (d : Certificate). let z : Checking = record { program = y.program; certificate = d } in Ok z) (h.1 ∙ sym g.1)
    ))
one_verdict p c (Ok x) (Err b) h g = inr (inl (ap as_err (valid_no p c h.2 b g)))
one_verdict p c (Err a) (Ok y) h g = inl (ap as_err (valid_no p c g.2 a h))
one_verdict p c (Err a) (Err b) h g =
    elim (one_plain p c a b h g) [
      | inl memory ↦ inl (ap as_err memory)
      | inr (inl memory) ↦ inr (inl (ap as_err memory))
      | inr (inr same) ↦ inr (inr (ap as_err same))
    ]
