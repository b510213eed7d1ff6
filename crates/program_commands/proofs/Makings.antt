-- The maker answers one thing.
use Rattle.std.proofs.Common.{◌≡◌, ◌⊎◌, inl, inr, ℕ, List, slice_get, Some, Result, Ok, Err, refl, sym, ap, ◌∙◌, arith}
use Rattle.std.proofs.lemmas.Bool.{cases_lt}
use Rattle.std.proofs.lemmas.Option.{same_Some}
use Rattle.meta_model.specs.Loaded.{Loaded}
use Rattle.effect_scan.specs.declared.node.Node.{Node}
use Rattle.effect_scan.specs.Nodes.{nodes_of}
use Rattle.type_check.specs.declared.spot.Spot.{Spot}
use Rattle.type_check.specs.declared.spot.Spot.TheVariants as spot
use Rattle.type_check.specs.Firsts.{LacksFirst}
use Rattle.type_check.specs.Typed.{IsTypedNode, IsTypedSite, IsTypedProgram, FindsUntyped}
use Rattle.type_check.specs.Wires.{IsFitWire, AreFitWires}
use Rattle.certificate_lang.specs.declared.certificate.Certificate.{Certificate}
use Rattle.rank_make.specs.Makes.{NoneIsValid, IsReason}
use Rattle.rank_make.specs.Walks.{NoCycle, IsToldCycle, NoDestroyPath, IsDestroyPath}
use Rattle.rank_make.specs.declared.why.Why.{Why}
use Rattle.rank_make.specs.declared.why.Why.TheVariants.{Wire, BodyType, Cycle, DestroyPath, TooHigh, Memory}
use Rattle.program_commands.specs.Laws.{IsSameReason, OneMaking}
use Rattle.program_commands.proofs.Least.{one_least}

-- ---- first elements
one_place : {X : Type 0} (P : X → Type 0) (xs : List X) (j k : ℕ) (x y : X) → LacksFirst P xs j x → LacksFirst P xs k y → j ≡ k
one_place P xs j k x y h g =
    elim (cases_lt j k) [
      | inl low ↦ absurd (h.lacks (g.before j x low h.is))
      | inr high ↦ elim (cases_lt k j) [ inl low ↦ absurd (g.lacks (h.before k y low g.is)) | inr more ↦ omega arith ]
    ]

one_item : {X : Type 0} (P : X → Type 0) (xs : List X) (j k : ℕ) (x y : X) → LacksFirst P xs j x → LacksFirst P xs k y → x ≡ y
one_item P xs j k x y h g = same_Some x y (sym h.is ∙ (ap (λ (n : ℕ). slice_get xs n) (one_place P xs j k x y h g) ∙ g.is))

module _ (p : Loaded) where
  -- ---- what isn't typed
  typed_none : (s : Spot) → IsTypedProgram p → ¬ FindsUntyped p (Some s)
  typed_none (spot.Node x) typed h = h.first.lacks (typed.nodes h.number x h.first.is)
  typed_none (spot.Binding site) typed h = h.first.first.lacks (typed.sites site h.first.item h.first.first.is)

  one_spot : (s t : Spot) → FindsUntyped p (Some s) → FindsUntyped p (Some t) → s ≡ t
  one_spot (spot.Node x) (spot.Node y) h g = ap (λ z. spot.Node z) (one_item (IsTypedNode p) (nodes_of p) h.number g.number x y h.first g.first)
  one_spot (spot.Binding j) (spot.Binding k) h g = ap (λ (n : ℕ). spot.Binding n) (one_place (IsTypedSite p) p.sites j k h.first.item g.first.item h.first.first g.first.first)
  one_spot (spot.Node x) (spot.Binding k) h g = absurd (h.first.lacks (g.nodes h.number x h.first.is))
  one_spot (spot.Binding j) (spot.Node y) h g = absurd (g.first.lacks (h.nodes g.number y g.first.is))

  -- ---- what excludes what
  fit_none : (j : ℕ) → AreFitWires p → ¬ IsReason p (Wire j)
  fit_none j fit h = h.0.first.lacks (fit j h.0.item h.0.first.is)

  cycle_none : NoCycle p → (nodes : List Node) → ¬ IsToldCycle p nodes
  cycle_none none nodes told = none told.first nodes told.cycle.comes_back

  path_none : NoDestroyPath p → (nodes : List Node) → ¬ IsDestroyPath p nodes
  path_none none nodes told = none nodes told.leads

  abbrev Same : Why → Why → Type 0
  Same v w = (v ≡ Memory) ⊎ (w ≡ Memory) ⊎ IsSameReason v w

  one_reason : (v w : Why) → IsReason p v → IsReason p w → Same v w
  one_reason Memory w h g = inl refl
  one_reason (Wire j) (Wire k) h g = inr (inr (one_place (IsFitWire p) p.wires j k h.0.item g.0.item h.0.first g.0.first))
  one_reason (Wire j) (BodyType t) h g = absurd (fit_none j g.0 h)
  one_reason (Wire j) (Cycle n) h g = absurd (fit_none j g.0.wires h)
  one_reason (Wire j) (DestroyPath n) h g = absurd (fit_none j g.0.wires h)
  one_reason (Wire j) (TooHigh n) h g = absurd (fit_none j g.0.wires h)
  one_reason (Wire j) Memory h g = inr (inl refl)
  one_reason (BodyType s) (Wire k) h g = absurd (fit_none k h.0 g)
  one_reason (BodyType s) (BodyType t) h g = inr (inr (one_spot s t h.1 g.1))
  one_reason (BodyType s) (Cycle n) h g = absurd (typed_none s g.0.typed h.1)
  one_reason (BodyType s) (DestroyPath n) h g = absurd (typed_none s g.0.typed h.1)
  one_reason (BodyType s) (TooHigh n) h g = absurd (typed_none s g.0.typed h.1)
  one_reason (BodyType s) Memory h g = inr (inl refl)
  one_reason (Cycle m) (Wire k) h g = absurd (fit_none k h.0.wires g)
  one_reason (Cycle m) (BodyType t) h g = absurd (typed_none t h.0.typed g.1)
  one_reason (Cycle m) (Cycle n) h g = inr (inr tt)
  one_reason (Cycle m) (DestroyPath n) h g = absurd (cycle_none g.1 m h.1)
  one_reason (Cycle m) (TooHigh n) h g = absurd (cycle_none g.1 m h.1)
  one_reason (Cycle m) Memory h g = inr (inl refl)
  one_reason (DestroyPath m) (Wire k) h g = absurd (fit_none k h.0.wires g)
  one_reason (DestroyPath m) (BodyType t) h g = absurd (typed_none t h.0.typed g.1)
  one_reason (DestroyPath m) (Cycle n) h g = absurd (cycle_none h.1 n g.1)
  one_reason (DestroyPath m) (DestroyPath n) h g = inr (inr tt)
  one_reason (DestroyPath m) (TooHigh n) h g = absurd (path_none g.2 m h.2)
  one_reason (DestroyPath m) Memory h g = inr (inl refl)
  one_reason (TooHigh m) (Wire k) h g = absurd (fit_none k h.0.wires g)
  one_reason (TooHigh m) (BodyType t) h g = absurd (typed_none t h.0.typed g.1)
  one_reason (TooHigh m) (Cycle n) h g = absurd (cycle_none h.1 n g.1)
  one_reason (TooHigh m) (DestroyPath n) h g = absurd (path_none h.2 n g.2)
  one_reason (TooHigh m) (TooHigh n) h g = inr (inr tt)
  one_reason (TooHigh m) Memory h g = inr (inl refl)

  none_valid : (w : Why) → IsReason p w → (w ≡ Memory) ⊎ NoneIsValid p
  none_valid (Wire j) h = inr h.1
  none_valid (BodyType s) h = inr h.2
  none_valid (Cycle n) h = inr h.2
  none_valid (DestroyPath n) h = inr h.3
  none_valid (TooHigh n) h = inr h.4
  none_valid Memory h = inl refl

abbrev as_err : Why → Result Certificate Why
as_err w = Err w

pub one_making : OneMaking
one_making p is (Ok a) (Ok b) h g = inr (inr (one_least p is a b h g))
one_making p is (Ok a) (Err w) h g = elim (none_valid p w g) [ inl memory ↦ inr (inl (ap as_err memory)) | inr none ↦ absurd (none a h.valid) ]
one_making p is (Err v) (Ok b) h g = elim (none_valid p v h) [ inl memory ↦ inl (ap as_err memory) | inr none ↦ absurd (none b g.valid) ]
one_making p is (Err v) (Err w) h g =
    elim (one_reason p v w h g) [
      | inl memory ↦ inl (ap as_err memory)
      | inr (inl memory) ↦ inr (inl (ap as_err memory))
      | inr (inr same) ↦ inr (inr same)
    ]
