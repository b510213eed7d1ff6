-- Writes and binds that are planned before anything changes, and what carrying them out makes of objects and bindings
-- (docs/machine.md, "Bindings").
use Rattle.std.specs.Prelude.{◌≡◌, ℕ, List, [], ◌∷◌, Option, Result, Ok, Err}
use Rattle.std.specs.Option.{option_map, unwrap_or}
use Rattle.basic_types.specs.declared.value.Value.{Value}
use Rattle.meta_model.specs.Loaded.{Loaded}
use Rattle.object_tree.specs.declared.object.Object.{Object}
use Rattle.object_tree.specs.Objects.{change_life, written}
use Rattle.binding_graph.specs.declared.place.Place.{Place}
use Rattle.prop_bindings.specs.declared.plans.assignment.Assignment.{Assignment}
use Rattle.binding_graph.specs.declared.binding.Binding.{Binding}
use Rattle.prop_bindings.specs.declared.plans.fault.BindFault.{BindFault}
use Rattle.prop_bindings.specs.declared.plans.fault.WriteFault.{WriteFault}
use Rattle.prop_bindings.specs.declared.plans.planned.Planned.{Planned}
use Rattle.prop_bindings.specs.declared.plans.planned.PlannedBind.{PlannedBind}
use Rattle.prop_bindings.specs.declared.plans.planned.PlannedGroup.{PlannedGroup}
use Rattle.prop_bindings.specs.declared.plans.planned.PlannedWrite.{PlannedWrite}
use Rattle.prop_bindings.specs.Values.{values_in}
use Rattle.binding_graph.specs.Bindings.{replaced, without_all}
use Rattle.prop_bindings.specs.Calls.{AllFit, IsNotWritten, IsNotBound, IsBound, new_binding}
use Rattle.prop_bindings.specs.Changes.{IsWritten, places_in}

-- the objects once each property of this object and of this number has this value
abbrev pub assigned : List ((ℕ × ℕ) × Value) → List Object → List Object
assigned [] objects = objects
assigned (e ∷ rest) objects = change_life e.0.0 (written e.0.1 e.1) (assigned rest objects)

-- the objects once a plan is carried out
abbrev pub after : Planned → List Object → List Object
after plan objects = assigned plan.values.entries objects

-- once it is carried out, the property has this value, or its own where this is none
abbrev pub WillBe : Planned → Place → Option Value → Type 0
WillBe plan at v = (objects : List Object) → values_in (after plan objects) at ≡ option_map (unwrap_or v) (values_in objects at)

-- ---- write
-- the plan is of these writes
abbrev pub IsPlannedWrite : Loaded → List Assignment → List Binding → List Object → Planned → Type 0
IsPlannedWrite p writes bs objects plan =
    AllFit p objects writes
    × IsWritten bs (without_all (places_in writes) bs) objects (after plan objects) writes plan.changed

-- A plan of a write; or why there is none, and nothing changes.
abbrev pub PlansWrite : Loaded → List Assignment → List Binding → List Object → Result PlannedWrite WriteFault → Type 0
PlansWrite p writes bs objects (Ok plan) = IsPlannedWrite p writes bs objects plan.planned
PlansWrite p writes bs objects (Err fault) = IsNotWritten p objects writes fault

-- A plan of a group of writes; or why there is none, and nothing changes.
abbrev pub PlansGroup : Loaded → List Assignment → List Binding → List Object → Result PlannedGroup WriteFault → Type 0
PlansGroup p writes bs objects (Ok plan) = IsPlannedWrite p writes bs objects plan.planned
PlansGroup p writes bs objects (Err fault) = IsNotWritten p objects writes fault

-- ---- bind
-- the plan is of this bind
pub record IsPlannedBind (p : Loaded) (number target : ℕ) (sources : List ℕ) (bs : List Binding)
    (objects : List Object) (plan : PlannedBind) : Type 0 where
  pub bound : IsBound p bs objects number target sources (replaced bs plan.reader) (after plan.planned objects) plan.planned.changed
  pub binding : plan.reader ≡ new_binding bound.may

-- A plan of a bind; or why there is none, and nothing changes.
abbrev pub PlansBind : Loaded → ℕ → ℕ → List ℕ → List Binding → List Object → Result PlannedBind BindFault → Type 0
PlansBind p number target sources bs objects (Ok plan) = IsPlannedBind p number target sources bs objects plan
PlansBind p number target sources bs objects (Err fault) = IsNotBound p objects bs number target sources fault
