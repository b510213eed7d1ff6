-- What the declarations of a class and of those above it say together.
use Rattle.std.proofs.Common.{◌≡◌, ℕ, zero, suc, ◌<◌, List, [], ◌∷◌, length, slice_get, Some, None, ◌⊎◌, inl, inr, ◌↔◌, refl, sym, ◌∙◌, subst, arith}
use Rattle.std.proofs.lemmas.Option.{none-some, same_Some, slice_get_within}
use Rattle.basic_types.specs.declared.sig.Sig.{Sig}
use Rattle.basic_types.specs.declared.kind.Kind.{Kind}
use Rattle.meta_model.specs.declared.object.MetaOwns.{MetaOwns}
use Rattle.meta_model.specs.Loaded.{Loaded}
use Rattle.meta_model.specs.Members.{Below, same, under, base_of, Covers, Owns}
use Rattle.meta_model.specs.code.Declared.{OwnsFrom, Joins, CoversFrom}
use Rattle.meta_model.proofs.InLists.{in_list, place_in, covered_by, covers_of, owned_by, owns_of}
use Rattle.meta_model.proofs.OneAnswer.{below_itself}

there_is : {X : Type 0} (xs : List X) (c : ℕ) → c < length xs → (x : X) × (slice_get xs c ≡ Some x)
there_is [] c inside = absurd (omega arith)
there_is (x ∷ xs) zero inside = (x, refl)
there_is (x ∷ xs) (suc c) inside = there_is xs c (omega arith)

-- what holds where something stands here, or above here, holds where nothing stands here just where it holds above
module _ (p : Loaded) (H : ℕ → Type 0) (From : ℕ → Type 0) where
  pub record Inherits : Type 0 where
    pub here : (c : ℕ) → From c → H c
    pub above : (c b : ℕ) → base_of p c ≡ Some b → H b → H c
    pub only : (c : ℕ) → H c → From c ⊎ ((b : ℕ) × (base_of p c ≡ Some b) × H b)

  pub at_base : Inherits → (c b : ℕ) → base_of p c ≡ Some b → ¬ From c → H b ↔ H c
  at_base inherits c b base none = (
    inherits.above c b base,
    λ h. elim (inherits.only c h) [
      | inl from ↦ absurd (none from)
      | inr up ↦ subst H (same_Some _ _ (sym up.1 ∙ base)) up.2
    ],
  )

  pub at_root : Inherits → (c : ℕ) → base_of p c ≡ None → ¬ From c → ¬ H c
  at_root inherits c none from h = elim (inherits.only c h) [ inl own ↦ from own | inr up ↦ none-some _ (sym none ∙ up.1) ]

module _ (p : Loaded) where
  split : (c x : ℕ) → Below p c x → ((c ≡ x) × (c < length p.classes)) ⊎ ((b : ℕ) × (base_of p c ≡ Some b) × Below p b x)
  split c x (same is) = inl (refl, slice_get_within p.classes c _ is.is)
  split c x (under e rest) = inr (_, e, rest)

  itself : (c : ℕ) → c < length p.classes → Below p c c
  itself c inside = below_itself p c (there_is p.classes c inside).1

  pub owns_inherited : (d : ℕ) → Inherits p (λ c. Owns p c d) (λ c. OwnsFrom p c d)
  owns_inherited d = record { here = here; above = above; only = only }
    where
      here : (c : ℕ) → OwnsFrom p c d → Owns p c d
      here c from =
          let stands = from.1 in
          let one : stands.holds.item ≡ stands.belongs.item = same_Some _ _ (sym stands.holds.is ∙ stands.belongs.is) in
          owns_of (record {
            owns = stands.belongs.item;
            declared = in_list p.owns from.0 stands.belongs.item stands.belongs.is;
            parent = subst (Below p c) (sym stands.belongs.has) (itself c stands.there);
            child = subst (λ (o : MetaOwns). Below p d o.child) one stands.holds.has;
          })

      above : (c b : ℕ) → base_of p c ≡ Some b → Owns p b d → Owns p c d
      above c b base h = let o = owned_by h in owns_of (record { owns = o.owns; declared = o.declared; parent = under base o.parent; child = o.child })

      only : (c : ℕ) → Owns p c d → OwnsFrom p c d ⊎ ((b : ℕ) × (base_of p c ≡ Some b) × Owns p b d)
      only c h =
          let o = owned_by h in
          let at = place_in p.owns o.owns o.declared in
          elim (split c o.owns.parent o.parent) [
            | inl own ↦ inl (
              at.0,
              record {
                there = own.1;
                belongs = record { item = o.owns; is = at.1; has = sym own.0 };
                holds = record { item = o.owns; is = at.1; has = o.child };
              },
            )
            | inr up ↦ inr (up.0, up.1, owns_of (record { owns = o.owns; declared = o.declared; parent = up.2; child = o.child }))
          ]

  pub covers_inherited : (signal : Sig) (d : ℕ) (method : Sig) (kind : Kind) → Inherits p (λ c. Covers p c signal d method kind) (λ c. CoversFrom p c signal d method kind)
  covers_inherited signal d method kind = record { here = here; above = above; only = only }
    where
      here : (c : ℕ) → CoversFrom p c signal d method kind → Covers p c signal d method kind
      here c from =
          let stands = from.1 in
          let one : stands.holds.item ≡ stands.belongs.item = same_Some _ _ (sym stands.holds.is ∙ stands.belongs.is) in
          let joins : Joins p signal d method kind stands.belongs.item = subst (Joins p signal d method kind) one stands.holds.has in
          covers_of (record {
            wire = stands.belongs.item;
            declared = in_list p.wires from.0 stands.belongs.item stands.belongs.is;
            by = record {
              sender = subst (Below p c) (sym stands.belongs.has) (itself c stands.there);
              receiver = joins.receiver;
              from = joins.from;
              to = joins.to;
              same_kind = joins.same_kind;
            };
          })

      above : (c b : ℕ) → base_of p c ≡ Some b → Covers p b signal d method kind → Covers p c signal d method kind
      above c b base h =
          let o = covered_by h in
          covers_of (record {
            wire = o.wire;
            declared = o.declared;
            by = record { sender = under base o.by.sender; receiver = o.by.receiver; from = o.by.from; to = o.by.to; same_kind = o.by.same_kind };
          })

      only : (c : ℕ) → Covers p c signal d method kind → CoversFrom p c signal d method kind ⊎ ((b : ℕ) × (base_of p c ≡ Some b) × Covers p b signal d method kind)
      only c h =
          let o = covered_by h in
          let at = place_in p.wires o.wire o.declared in
          elim (split c o.wire.sender o.by.sender) [
            | inl own ↦ inl (
              at.0,
              record {
                there = own.1;
                belongs = record { item = o.wire; is = at.1; has = sym own.0 };
                holds = record { item = o.wire; is = at.1; has = record { receiver = o.by.receiver; from = o.by.from; to = o.by.to; same_kind = o.by.same_kind } };
              },
            )
            | inr up ↦ inr (
              up.0,
              up.1,
              covers_of (record {
                wire = o.wire;
                declared = o.declared;
                by = record { sender = up.2; receiver = o.by.receiver; from = o.by.from; to = o.by.to; same_kind = o.by.same_kind };
              }),
            )
          ]
