-- When a write and a bind may be, and why one isn't (docs/machine.md, "Bindings").
use Rattle.std.specs.Prelude.{◌≡◌, ℕ, List, Result, Ok, Err, Some, slice_get}
use Rattle.std.specs.List.{AllZip, AllByRecursion}
use Rattle.meta_model.specs.Loaded.{Loaded}
use Rattle.meta_model.specs.Members.{Below}
use Rattle.object_tree.specs.declared.object.Object.{Object}
use Rattle.object_tree.specs.Objects.{class_of}
use Rattle.meta_model.specs.declared.site.MetaSite.{MetaSite}
use Rattle.binding_graph.specs.declared.place.Place.{Place}
use Rattle.prop_bindings.specs.declared.plans.assignment.Assignment.{Assignment}
use Rattle.binding_graph.specs.declared.binding.Binding.{Binding}
use Rattle.prop_bindings.specs.declared.plans.fault.BindFault.{BindFault}
use Rattle.prop_bindings.specs.declared.plans.fault.BindFault.TheVariants as bind
use Rattle.prop_bindings.specs.declared.plans.fault.WriteFault.{WriteFault}
use Rattle.prop_bindings.specs.declared.plans.fault.WriteFault.TheVariants as write
use Rattle.binding_graph.specs.Places.{property_of}
use Rattle.binding_graph.specs.Bindings.{binding_at, replaced, Loop}
use Rattle.prop_bindings.specs.Changes.{IsWritten, IsInstalled}
use Rattle.prop_bindings.specs.Fits.{FitsAt, IsFit, InOneLoop}

-- ---- write
-- each value is of its property's type
abbrev pub AllFit : Loaded → List Object → List Assignment → Type 0
AllFit p objects writes = AllByRecursion (λ (a : Assignment). FitsAt p objects a.place a.value) writes

-- why values aren't written
pub data IsNotWritten (p : Loaded) (objects : List Object) (writes : List Assignment) : WriteFault → Type 0 where
  bad_type : (¬ AllFit p objects writes) → IsNotWritten p objects writes write.BadType
  no_memory : IsNotWritten p objects writes write.Memory

-- what a write answers, with the bindings and the objects before it and after it
abbrev pub Writes : Loaded → List Assignment → List Binding → List Object → Result (List Place) WriteFault → List Binding
    → List Object → Type 0
Writes p writes bs old (Ok changed) cs new = AllFit p old writes × IsWritten bs cs old new writes changed
Writes p writes bs old (Err fault) cs new = IsNotWritten p old writes fault

-- ---- bind
-- the living object is of the class or of one below it
pub record IsOf (p : Loaded) (objects : List Object) (o c : ℕ) : Type 0 where
  pub class : ℕ
  pub is : class_of objects o ≡ Some class
  pub below : Below p class c

-- the site covers the target, and just as many sources
pub record CoversBinding (p : Loaded) (objects : List Object) (site : MetaSite) (target : ℕ) (sources : List ℕ)
    : Type 0 where
  pub of_target : IsOf p objects target site.class
  pub of_sources : AllZip (IsOf p objects) sources site.formals

-- the site of this number covers them
pub record IsSited (p : Loaded) (objects : List Object) (number target : ℕ) (sources : List ℕ)
    : Type 0 where
  pub site : MetaSite
  pub is : slice_get p.sites number ≡ Some site
  pub covers : CoversBinding p objects site target sources

-- the binding of a site
abbrev pub binding_of : MetaSite → ℕ → ℕ → List ℕ → Binding
binding_of site number target sources =
    record { site = number; target = property_of target site.property; sources = sources; formula = site.formula }

-- a site covers the binding, which joins objects of one event loop
pub record MayBind (p : Loaded) (objects : List Object) (number target : ℕ) (sources : List ℕ)
    : Type 0 where
  pub sited : IsSited p objects number target sources
  pub one_loop : InOneLoop objects target sources

abbrev pub new_binding : {p : Loaded} {objects : List Object} {number target : ℕ} {sources : List ℕ}
    → MayBind p objects number target sources → Binding
new_binding {number = number} {target = target} {sources = sources} may = binding_of may.sited.site number target sources

-- why a binding isn't installed: the first of these that holds; or memory was refused
pub data IsNotBound (p : Loaded) (objects : List Object) (bs : List Binding)
    (number target : ℕ) (sources : List ℕ) : BindFault → Type 0 where
  bad_source : (¬ IsSited p objects number target sources)
      → IsNotBound p objects bs number target sources bind.BadSource
  other_loop : IsSited p objects number target sources → (¬ InOneLoop objects target sources)
      → IsNotBound p objects bs number target sources bind.OtherLoop
  bad_type : (may : MayBind p objects number target sources) → (¬ IsFit p objects (new_binding may))
      → IsNotBound p objects bs number target sources bind.BadType
  closes : (may : MayBind p objects number target sources) → IsFit p objects (new_binding may)
      → Loop (binding_at (replaced bs (new_binding may)))
      → IsNotBound p objects bs number target sources bind.BindingLoop
  no_memory : IsNotBound p objects bs number target sources bind.Memory

-- the binding is installed, and closes no chain
pub record IsBound (p : Loaded) (bs : List Binding) (old : List Object)
    (number target : ℕ) (sources : List ℕ) (cs : List Binding) (new : List Object) (changed : List Place) : Type 0 where
  pub may : MayBind p old number target sources
  pub fit : IsFit p old (new_binding may)
  pub installs : IsInstalled bs cs old new (new_binding may) changed
  pub acyclic : ¬ Loop (binding_at cs)

-- what a bind answers, with the bindings and the objects before it and after it
abbrev pub Binds : Loaded → ℕ → ℕ → List ℕ → List Binding → List Object → Result (List Place) BindFault → List Binding
    → List Object → Type 0
Binds p number target sources bs old (Ok changed) cs new = IsBound p bs old number target sources cs new changed
Binds p number target sources bs old (Err fault) cs new = IsNotBound p old bs number target sources fault
