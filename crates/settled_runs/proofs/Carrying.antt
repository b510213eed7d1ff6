-- What places of sets come to have: what the set carries (docs/settling-proof.md, "The claims").
use Rattle.std.proofs.Common.{◌≡◌, ◌⊎◌, inl, inr, ℕ, Bool, true, false, List, [], ◌∷◌, Option, Some, None, slice_get, refl, sym, ap, subst}
use Rattle.basic_types.specs.declared.value.Value.{Value}
use Rattle.meta_model.specs.Loaded.{Loaded}
use Rattle.object_tree.specs.{declared.life.Life.{Life}, declared.object.Object.{Object}, Seen.{seen}}
use Rattle.binding_graph.specs.declared.place.Place.{Place}
use Rattle.machine_state.specs.{Connections.{is_living}, State.{State, Activation}}
use Rattle.machine_rules.{specs.Destroying.{Dies, NextRule, ChildRule, DestroyRule, living_child, Schedules}, proofs.Scheduling.{schedule-cases}}
use Rattle.settling.specs.declared.certificate.SettlingCertificate.{SettlingCertificate}
use Rattle.settled_runs.{specs.Levels.{Carried, Level, IsPlaceIn}, specs.Written.{values_of, reads, IsOver}, specs.Deaths.{MayHaveDied}, proofs.Deleting.{may-have-died, scheduled-only}}

-- the place reads as what the set carries, and all values read as they did
pub record ReadsCarried (old new : List Object) (c : Carried) (q : Place) : Type 0 where
  pub has : reads new q ≡ Some (seen old c.value)
  pub alike : (v : Value) → seen new v ≡ seen old v

-- a place of the set of a level keeps its value, or comes to read as what the set carries, if its object lives
abbrev pub KeepsPlaces : Loaded → (ℕ → Option ℕ) → List Object → List Object → {certificate : SettlingCertificate} → List (Level certificate) → Type 0
KeepsPlaces p classes old new {certificate} levels =
    (j : ℕ) (l : Level certificate) (c : Carried) (q : Place) → slice_get levels j ≡ Some l → l.within ≡ Some c → IsPlaceIn p certificate classes c.set q
    → IsOver new q ⊎ ((values_of new q ≡ values_of old q) ⊎ ReadsCarried old new c q)

module _ (p : Loaded) (classes : ℕ → Option ℕ) {certificate : SettlingCertificate} (levels : List (Level certificate)) where
  -- nothing is written
  pub places-same : (old new : List Object) → new ≡ old → KeepsPlaces p classes old new levels
  places-same old new e j l c q at is there = inr (inl (ap (λ (objects : List Object). values_of objects q) e))

  pub places-died : (old new : List Object) → MayHaveDied old new → KeepsPlaces p classes old new levels
  places-died old new died j l c q at is there = elim (died.living q) [ inl over ↦ inl over | inr same ↦ inr (inl same) ]

-- a deletion writes nothing
died-same : (old new : List Object) → new ≡ old → MayHaveDied old new
died-same old new e = subst (λ (objects : List Object). MayHaveDied old objects) (sym e) (record { dead = λ o gone. gone; living = λ q. inr refl })

dies-died : {s t : State} {stack : List Activation} {x : ℕ} → Dies s stack x t → MayHaveDied s.objects t.objects
dies-died {s} {x = x} d =
    let Family : State → Type 0 = λ v. MayHaveDied s.objects v.objects in
    subst Family (sym d.gives) (may-have-died s.objects x d.named)

pub destroy-died : (s t : State) (below : List Activation) (next : Option ℕ) (torn : List ℕ) → DestroyRule s below t next torn → MayHaveDied s.objects t.objects
destroy-died s t below (Some x) torn rule = by_life (is_living s.objects x) rule
  where
    by_life : (b : Bool) → NextRule s below t x torn b → MayHaveDied s.objects t.objects
    by_life true d = dies-died d
    by_life false e = died-same s.objects t.objects (ap (λ (v : State). v.objects) e)
destroy-died s t below None [] e = died-same s.objects t.objects (ap (λ (v : State). v.objects) e)
destroy-died s t below None (parent ∷ torn) rule = by_child (living_child s parent) rule
  where
    by_child : (found : Option ℕ) → ChildRule s below t parent torn found → MayHaveDied s.objects t.objects
    by_child None e = died-same s.objects t.objects (ap (λ (v : State). v.objects) e)
    by_child (Some x) d = dies-died d

pub schedule-died : (s t : State) (stack : List Activation) (x : ℕ) (life : Option Life) → Schedules s stack x t life → MayHaveDied s.objects t.objects
schedule-died s t stack x life rule =
    let Family : State → Type 0 = λ v. MayHaveDied s.objects v.objects in
    elim (schedule-cases life rule) [
      | inl e ↦ died-same s.objects t.objects (ap (λ (v : State). v.objects) e)
      | inr d ↦ subst Family (sym d.gives) (scheduled-only s.objects x)
    ]
