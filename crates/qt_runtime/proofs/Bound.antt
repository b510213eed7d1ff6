-- What the installing of a binding leaves of the world, and a write, of an event that is accepted.
use Rattle.std.proofs.Common.{◌≡◌, ℕ, ◌+◌, ◌-◌, List, [], ◌∷◌, ◌++◌, length, take, Result, Ok, Err, IsErrAnd, refl, ap, sym, ◌∙◌, subst}
use Rattle.meta_model.specs.Loaded.{Loaded}
use Rattle.object_tree.specs.declared.object.Object.{Object}
use Rattle.binding_graph.specs.declared.binding.Binding.{Binding}
use Rattle.prop_bindings.specs.declared.plans.fault.BindFault.{BindFault}
use Rattle.prop_bindings.specs.declared.plans.fault.BindFault.TheVariants as bind
use Rattle.binding_graph.specs.declared.place.Place.{Place}
use Rattle.prop_bindings.specs.declared.plans.planned.PlannedBind.{PlannedBind}
use Rattle.binding_graph.specs.Bindings.{without, replaced}
use Rattle.prop_bindings.specs.Calls.{IsNotBound, new_binding}
use Rattle.prop_bindings.specs.Plans.{after, IsPlannedBind}
use Rattle.trace_entries.specs.declared.entry.Entry.{Entry}
use Rattle.trace_entries.specs.declared.entry.Entry.TheVariants.{Accepted}
use Rattle.machine_state.specs.declared.changes.telling.Cause.TheVariants.{Bind}
use Rattle.machine_state.specs.declared.world.World.{World}
use Rattle.machine_state.specs.Telling.{AreTold}
use Rattle.machine_state.specs.code.Changing.{with_bound, counted, accepting_entries, HasBound, BindsIn}

-- an event is counted, and so they are
pub counted-over : (w u v : World) (change : List Object → List Object) (target : Place) (lines trace : List Entry) → trace ≡ w.trace ++ Accepted (w.events + 1) ∷ [] ++ lines → u ≡ counted (record w { trace = trace }) → v ≡ with_bound u (change u.store.tree) (without target u.store.bindings) → v ≡ with_bound (accepting_entries w lines) (change w.store.tree) (without target w.store.bindings)
counted-over w u v change target lines trace full counts is =
    is ∙ ap (λ (z : World). with_bound z (change z.store.tree) (without target z.store.bindings)) (counts ∙ ap (λ (s : List Entry). counted (record w { trace = s })) full)

-- ---- a binding is installed, or memory was refused
pub binds-short : (p : Loaded) (site target : ℕ) (sources : List ℕ) (w v : World) (told : List Entry → World) → v ≡ w → (r : Result (List Place) BindFault) → IsErrAnd r (λ fault. fault ≡ bind.Memory) → BindsIn p site target sources w told r v
binds-short p site target sources w v told same (Ok x) is = absurd is
binds-short p site target sources w v told same (Err fault) is =
    (subst (IsNotBound p w.store.tree w.store.bindings site target sources) (sym is) IsNotBound.no_memory, same)

-- the trace loses its lines again
first-kept : (xs ys zs : List Entry) → take (length xs) (xs ++ ys ++ zs) ≡ xs
first-kept [] ys zs = refl
first-kept (x ∷ xs) ys zs = ap (λ (front : List Entry). x ∷ front) (first-kept xs ys zs)

pub lines-lost : (w : World) (event lines full trace : List Entry) (told : ℕ) (objects : List Object) (bindings : List Binding) → told ≡ length w.trace → full ≡ w.trace ++ event ++ lines → trace ≡ take told full → bindings ≡ w.store.bindings → objects ≡ w.store.tree → record (with_bound w objects bindings) { trace = trace } ≡ w
lines-lost w event lines full trace told objects bindings count filled kept bindings_are objects_are =
    let same : trace ≡ w.trace =
    kept
    ∙ ap (λ (n : ℕ). take n full) count
    ∙ ap (take (length w.trace)) filled
    ∙ first-kept w.trace event lines in
    ap (λ (s : List Entry). record (with_bound w objects bindings) { trace = s }) same
    ∙ ap (λ (os : List Object). with_bound w os bindings) objects_are
    ∙ ap (λ (bs : List Binding). with_bound w w.store.tree bs) bindings_are

module _ (p : Loaded) (site target : ℕ) (sources : List ℕ) (w v : World) (plan : PlannedBind) (will : IsPlannedBind p site target sources w.store.bindings w.store.tree plan) where
  pub has-bound : (lines trace : List Entry) (changed : List Place) (objects : List Object) (bindings : List Binding) → AreTold p (after plan.planned w.store.tree) 1 Bind plan.reader.target plan.planned.changed lines → changed ≡ plan.planned.changed → trace ≡ w.trace ++ Accepted (w.events + 1) ∷ [] ++ lines → objects ≡ after plan.planned w.store.tree → bindings ≡ replaced w.store.bindings plan.reader → v ≡ counted (with_bound (record w { trace = trace }) objects bindings) → HasBound p site target sources w (accepting_entries w) changed v
  has-bound lines trace changed objects bindings are_told same full tree_is bindings_are is =
      let new : List Object = after plan.planned w.store.tree in
      let cs : List Binding = replaced w.store.bindings plan.reader in
      let made : World = with_bound (accepting_entries w lines) new cs in
      let first : plan.reader.target ≡ (new_binding will.bound.may).target = ap (λ (b : Binding). b.target) will.binding in
      let is_made : v ≡ made =
      is
      ∙ ap (λ (os : List Object). counted (with_bound (record w { trace = trace }) os bindings)) tree_is
      ∙ ap (λ (bs : List Binding). counted (with_bound (record w { trace = trace }) new bs)) bindings_are
      ∙ ap (λ (s : List Entry). counted (with_bound (record w { trace = s }) new cs)) full in
      let has : HasBound p site target sources w (accepting_entries w) plan.planned.changed made = record {
        binds = will.bound;
        lines = lines;
        are_told = subst (λ (q : Place). AreTold p new 1 Bind q plan.planned.changed lines) first are_told;
        gives = refl;
      } in
      subst (λ (xs : List Place). HasBound p site target sources w (accepting_entries w) xs v) (sym same) (subst (HasBound p site target sources w (accepting_entries w) plan.planned.changed) (sym is_made) has)
