-- What is answered behind a `?`, and what of an answer.
use Rattle.std.proofs.Common.{◌≡◌, ℕ, List, Result, Ok, Err, subst, sym}
use Rattle.std.specs.Prelude.{IfOk, OnErr}
use Rattle.std.specs.Result.{IsErrAnd}
use Rattle.meta_model.specs.Loaded.{Loaded}
use Rattle.object_tree.specs.declared.object.Object.{Object}
use Rattle.binding_graph.specs.declared.place.Place.{Place}
use Rattle.prop_bindings.specs.declared.plans.assignment.Assignment.{Assignment}
use Rattle.binding_graph.specs.declared.binding.Binding.{Binding}
use Rattle.prop_bindings.specs.declared.plans.fault.BindFault.{BindFault}
use Rattle.prop_bindings.specs.declared.plans.fault.BindFault.TheVariants as bind
use Rattle.prop_bindings.specs.declared.plans.fault.WriteFault.{WriteFault}
use Rattle.prop_bindings.specs.declared.plans.fault.WriteFault.TheVariants as write
use Rattle.prop_bindings.specs.declared.plans.planned.PlannedWrite.{PlannedWrite}
use Rattle.prop_bindings.specs.declared.plans.planned.PlannedGroup.{PlannedGroup}
use Rattle.prop_bindings.specs.declared.plans.planned.PlannedBind.{PlannedBind}
use Rattle.prop_bindings.specs.Calls.{IsNotWritten, no_memory, Writes, IsNotBound, Binds}
use Rattle.prop_bindings.specs.Plans.{PlansGroup, PlansWrite}
use Rattle.prop_bindings.specs.code.Parts.{Installs, IsNotInstalled, short}

pub on-err : {T E P : Type 0} (r : Result T E) → P → OnErr r P
on-err (Ok x) h = tt
on-err (Err e) h = h

pub if-ok : {T E : Type 0} {P Q : T → Type 0} (r : Result T E) → ((x : T) → P x → Q x) → IfOk r P → IfOk r Q
if-ok (Ok x) f h = f x h
if-ok (Err e) f h = tt

pub plans-short : (p : Loaded) (writes : List Assignment) (bs : List Binding) (objects : List Object) (r : Result PlannedWrite WriteFault) → IsErrAnd r (λ f. f ≡ write.Memory) → PlansWrite p writes bs objects r
plans-short p writes bs objects (Ok plan) is = absurd is
plans-short p writes bs objects (Err f) is = subst (λ (g : WriteFault). IsNotWritten p objects writes g) (sym is) no_memory

pub plans-group-short : (p : Loaded) (writes : List Assignment) (bs : List Binding) (objects : List Object) (r : Result PlannedGroup WriteFault) → IsErrAnd r (λ f. f ≡ write.Memory) → PlansGroup p writes bs objects r
plans-group-short p writes bs objects (Ok plan) is = absurd is
plans-group-short p writes bs objects (Err f) is = subst (λ (g : WriteFault). IsNotWritten p objects writes g) (sym is) no_memory

pub writes-err : (p : Loaded) (writes : List Assignment) (bs cs : List Binding) (old new : List Object) (fault : WriteFault) (r : Result (List Place) WriteFault) → IsErrAnd r (λ f. f ≡ fault) → IsNotWritten p old writes fault → Writes p writes bs old r cs new
writes-err p writes bs cs old new fault (Ok changed) is why = absurd is
writes-err p writes bs cs old new fault (Err f) is why = subst (λ (g : WriteFault). IsNotWritten p old writes g) (sym is) why

pub binds-err : (p : Loaded) (number target : ℕ) (sources : List ℕ) (bs cs : List Binding) (old new : List Object) (fault : BindFault) (r : Result (List Place) BindFault) → IsErrAnd r (λ f. f ≡ fault) → IsNotBound p old bs number target sources fault → Binds p number target sources bs old r cs new
binds-err p number target sources bs cs old new fault (Ok changed) is why = absurd is
binds-err p number target sources bs cs old new fault (Err f) is why = subst (λ (g : BindFault). IsNotBound p old bs number target sources g) (sym is) why

pub installs-short : (b : Binding) (bs : List Binding) (objects : List Object) (r : Result PlannedBind BindFault) → IsErrAnd r (λ f. f ≡ bind.Memory) → Installs b bs objects r
installs-short b bs objects (Ok plan) is = absurd is
installs-short b bs objects (Err f) is = subst (λ (g : BindFault). IsNotInstalled bs b g) (sym is) short
