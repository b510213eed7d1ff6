-- What a write of a property that no binding reads leaves of the world.
use Rattle.std.{proofs.Common.{◌≡◌, ℕ, Bool, not, false, cond, ◌||◌, List, [], ◌∷◌, refl, ap, sym, subst}, specs.List.{AllZip}}
use Rattle.basic_types.specs.declared.value.Value.{Value}
use Rattle.meta_model.specs.Loaded.{Loaded}
use Rattle.object_tree.specs.{declared.object.Object.{Object}, Objects.{change_life, written}}
use Rattle.binding_graph.{specs.declared.binding.Binding.{Binding}, specs.declared.place.Place.{Place}, specs.Bindings.{binding_at, without}, specs.code.Graph.{Unread}, proofs.Places.{same_place-refl}}
use Rattle.prop_bindings.{specs.Changes.{AreChanged, IsWritten, none_changed, one, one_changed, one_stayed}, specs.Fits.{Agree, FitsAt}, proofs.Alone.{alone-agrees, alone-written}}
use Rattle.trace_entries.specs.declared.entry.Entry.{Entry}
use Rattle.machine_state.{specs.declared.changes.telling.Cause.TheVariants.{Write, Follow}, specs.declared.world.World.{World}, specs.Telling.{Alone, AreTold, HasValue, IsTold, others}, specs.code.Changing.{with_bound, HasWritten}, specs.code.Planned.{WillBeTold}, proofs.Changed.{fits-has, still-have}, proofs.Told.{told-now}}

-- no other property changes
none-other : (old new : List Object) (at : Place) (changed : List Place) → AreChanged old new (at ∷ []) changed → others (at ∷ []) changed ≡ []
none-other old new at changed (one_changed moved none_changed) = ap (λ (b : Bool). cond (not (b || false)) (at ∷ []) []) (same_place-refl at)
none-other old new at changed (one_stayed alike none_changed) = refl

module _ (p : Loaded) (w : World) (at : Place) (value : Value) (agree : Agree p w.store.tree w.store.bindings) (fits : FitsAt p w.store.tree at value) (unread : Unread (binding_at w.store.bindings) at) (changed : List Place)
    (changes : AreChanged w.store.tree (change_life at.object (written at.property value) w.store.tree) (at ∷ []) changed) where
  abbrev new : List Object
  new = change_life at.object (written at.property value) w.store.tree

  abbrev left : List Binding
  left = without at w.store.bindings

  writes : IsWritten w.store.bindings left w.store.tree new (one at value) changed
  writes = alone-written w.store.tree at value p w.store.bindings agree fits unread changed changes left new refl refl

  agrees : Agree p new left
  agrees = alone-agrees w.store.tree at value p w.store.bindings agree fits unread changed changes left new refl refl

  module _ (depth : ℕ) (line : Entry) (told : WillBeTold p w.store.tree depth Write at value line) where
    has : HasValue p new at
    has = (still-have p w.store.tree new agree.typed agrees.typed writes.objects (at ∷ []) (fits-has p w.store.tree agree.typed at value fits, tt)).0

    is-told : IsTold p new depth Write at line
    is-told = told-now p new depth Write at value line writes.written.0 (told new writes.objects has)

    are-told : AreTold p new depth Write at changed (line ∷ [])
    are-told = record {
      line = line;
      lines = [];
      is_told = is-told;
      others_told = subst (λ (qs : List Place). AllZip (IsTold p new depth Follow) qs []) (sym (none-other w.store.tree new at changed changes)) tt;
      are = refl;
    }

    pub alone-has-written : (v : World) (to : List Entry → World) → v ≡ with_bound (to (line ∷ [])) new left → HasWritten p depth (Alone at value) w to changed v
    alone-has-written v to is =
        let made : HasWritten p depth (Alone at value) w to changed (with_bound (to (line ∷ [])) new left) = record { writes = writes; lines = line ∷ []; are_told = are-told; gives = refl } in
        subst (HasWritten p depth (Alone at value) w to changed) (sym is) made

  pub alone-agreeing : (v u : World) → v ≡ with_bound u new left → Agree p v.store.tree v.store.bindings
  alone-agreeing v u is = subst (λ (z : World). Agree p z.store.tree z.store.bindings) (sym is) agrees
