-- What a type is read as is one.
use Rattle.std.proofs.Common.{◌≡◌, ℕ, true, false, List, inl, inr, refl, sym, ap, ◌∙◌}
use Rattle.basic_types.specs.declared.qtype.QType.{QType}
use Rattle.meta_model.specs.declared.object.ValueType.{ValueType}
use Rattle.meta_model.specs.declared.object.ValueType.TheVariants.{Int, Bool, Text, Reference}
use Rattle.class_outlines.specs.declared.outline.Outline.{Outline}
use Rattle.class_outlines.specs.DeclaredKinds.{IsKindIn}
use Rattle.class_outlines.specs.code.ReadTypes.{IsReadAs}
use Rattle.name_indexes.proofs.Searches.{same_first}

module _ (outlines : List Outline) (T : QType) where
  -- the name of a value type; a pointer is none
  plain : (a b : List ℕ) → T ≡ record { name = a; constant = false; pointer = false } → T ≡ record { name = b; constant = false; pointer = false } → a ≡ b
  plain a b h k = ap (λ (t : QType). t.name) (sym h ∙ k)

  plain_pointer : (a : List ℕ) → T ≡ record { name = a; constant = false; pointer = false } → ¬ (T.pointer ≡ true)
  plain_pointer a h p = let e = ap (λ (t : QType). t.pointer) h in absurd (cc)

  pub same_kind : (a b : ValueType) → IsKindIn outlines T a → IsKindIn outlines T b → a ≡ b
  same_kind Int Int h k = refl
  same_kind Int Bool h k = let e = plain _ _ h k in absurd (cc)
  same_kind Int Text h k = let e = plain _ _ h k in absurd (cc)
  same_kind Int (Reference c x) h k = absurd (plain_pointer _ h k.0)
  same_kind Bool Int h k = let e = plain _ _ h k in absurd (cc)
  same_kind Bool Bool h k = refl
  same_kind Bool Text h k = let e = plain _ _ h k in absurd (cc)
  same_kind Bool (Reference c x) h k = absurd (plain_pointer _ h k.0)
  same_kind Text Int h k = let e = plain _ _ h k in absurd (cc)
  same_kind Text Bool h k = let e = plain _ _ h k in absurd (cc)
  same_kind Text Text h k = refl
  same_kind Text (Reference c x) h k = absurd (plain_pointer _ h k.0)
  same_kind (Reference c x) Int h k = absurd (plain_pointer _ k h.0)
  same_kind (Reference c x) Bool h k = absurd (plain_pointer _ k h.0)
  same_kind (Reference c x) Text h k = absurd (plain_pointer _ k h.0)
  same_kind (Reference c x) (Reference d y) h k =
      ap (λ n. Reference n x) (same_first (λ (o : Outline). o.name ≡ T.name) outlines c d h.2 k.2) ∙ ap (λ b. Reference d b) (sym h.1 ∙ k.1)

  pub same_read : (a b : ValueType) → IsReadAs outlines T a → IsReadAs outlines T b → a ≡ b
  same_read a b (inl h) (inl k) = same_kind a b h k
  same_read a b (inl h) (inr k) = absurd (k.0 a h)
  same_read a b (inr h) (inl k) = absurd (h.0 b k)
  same_read a b (inr h) (inr k) = h.1 ∙ sym k.1
