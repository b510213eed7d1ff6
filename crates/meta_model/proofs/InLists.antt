-- The elements of a list are those that have a place in it.
use Rattle.std.proofs.Common.{◌≡◌, ℕ, zero, suc, List, [], ◌∷◌, slice_get, Some, inl, inr, sym, ap, ◌∙◌}
use Rattle.std.specs.List.{Any}
use Rattle.std.proofs.lemmas.Option.{same_Some, none-some, slice_get_within, slice_get-get_or, get_or_from_slice_get}
use Rattle.basic_types.specs.declared.sig.Sig.{Sig}
use Rattle.basic_types.specs.declared.kind.Kind.{Kind}
use Rattle.meta_model.specs.declared.object.MetaWire.{MetaWire}
use Rattle.meta_model.specs.declared.object.MetaOwns.{MetaOwns}
use Rattle.meta_model.specs.Loaded.{Loaded}
use Rattle.meta_model.specs.Members.{Below, IsIn, CoversBy, Covers, Owns}

pub in_list : {X : Type 0} (xs : List X) (i : ℕ) (x : X) → slice_get xs i ≡ Some x → IsIn x xs
in_list [] i x e = absurd (none-some x e)
in_list (y ∷ ys) zero x e = inl (same_Some _ _ (sym e))
in_list (y ∷ ys) (suc i) x e = inr (in_list ys i x e)

pub place_in : {X : Type 0} (xs : List X) (x : X) → IsIn x xs → (i : ℕ) × (slice_get xs i ≡ Some x)
place_in [] x h = absurd h
place_in (y ∷ ys) x (inl e) = (0, ap Some (sym e))
place_in (y ∷ ys) x (inr h) = let r = place_in ys x h in (suc r.0, r.1)

module _ {X : Type 0} (P : X → Type 0) (xs : List X) where
  any_in : (x : X) → IsIn x xs → P x → Any P xs
  any_in x declared by =
      let at = place_in xs x declared in
      (at.0, x, slice_get_within xs at.0 x at.1, get_or_from_slice_get xs at.0 x x at.1, by)

  in_any : Any P xs → (x : X) × IsIn x xs × P x
  in_any (k, x, inside, is, by) = (x, in_list xs k x (slice_get-get_or xs k x inside ∙ ap Some is), by)

-- a wire of the program that covers a connection
pub record CoveredBy (p : Loaded) (c : ℕ) (signal : Sig) (d : ℕ) (method : Sig) (kind : Kind) : Type 0 where
  pub wire : MetaWire
  pub declared : IsIn wire p.wires
  pub by : CoversBy p c signal d method kind wire

pub covered_by : {p : Loaded} {c d : ℕ} {signal method : Sig} {kind : Kind} → Covers p c signal d method kind → CoveredBy p c signal d method kind
covered_by {p} {c} {d} {signal} {method} {kind} covers =
    let found = in_any (CoversBy p c signal d method kind) p.wires covers in
    record { wire = found.0; declared = found.1; by = found.2 }

pub covers_of : {p : Loaded} {c d : ℕ} {signal method : Sig} {kind : Kind} → CoveredBy p c signal d method kind → Covers p c signal d method kind
covers_of {p} {c} {d} {signal} {method} {kind} h = any_in (CoversBy p c signal d method kind) p.wires h.wire h.declared h.by

-- a declaration of the program by which an object of class c may be the parent of one of class d
pub record OwnedBy (p : Loaded) (c d : ℕ) : Type 0 where
  pub owns : MetaOwns
  pub declared : IsIn owns p.owns
  pub parent : Below p c owns.parent
  pub child : Below p d owns.child

pub owned_by : {p : Loaded} {c d : ℕ} → Owns p c d → OwnedBy p c d
owned_by {p} {c} {d} owns =
    let found = in_any (λ (o : MetaOwns). Below p c o.parent × Below p d o.child) p.owns owns in
    record { owns = found.0; declared = found.1; parent = (found.2).0; child = (found.2).1 }

pub owns_of : {p : Loaded} {c d : ℕ} → OwnedBy p c d → Owns p c d
owns_of {p} {c} {d} h = any_in (λ (o : MetaOwns). Below p c o.parent × Below p d o.child) p.owns h.owns h.declared (h.parent, h.child)
