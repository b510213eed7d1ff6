-- The meta-objects that are made of outlines, part by part, before it is known that types are there: one that isn't is read
-- as `int`, and the program is refused in the end.
use Rattle.std.specs.{Prelude.{◌≡◌, ℕ, List, [], Option, None, Some, slice_get}, List.{AllZip}, Option.{option_and_then}}
use Rattle.basic_types.specs.declared.sig.Sig.{Sig}
use Rattle.syntax_trees.specs.{declared.program.Property.{Property}, declared.program.Program.{Program}}
use Rattle.meta_model.specs.{declared.object.Work.{Work}, declared.object.MetaMethod.{MetaMethod}, declared.object.MetaProperty.{MetaProperty}, declared.object.MetaObject.{MetaObject}, declared.object.MetaWire.{MetaWire}, declared.object.MetaOwns.{MetaOwns}, Loaded.{Loaded}, Root.{delete_later_body}, declared.site.MetaSite.{MetaSite}}
use Rattle.meta_model.specs.declared.object.Work.TheVariants as work
use Rattle.class_outlines.specs.{declared.outline.Sort.{Sort}, declared.outline.Heading.{Heading}, declared.outline.Outline.{Outline}, code.ReadTypes.{IsReadAs}, Notifiers.{IsSignalOf}}
use Rattle.class_outlines.specs.declared.outline.Sort.TheVariants as sort
use Rattle.name_indexes.specs.Places.{IsPlace}
use Rattle.name_resolution.specs.{declared.body_resolution.work.ResolvedWork.{ResolvedWork}, code.Sites.{IsSite}, code.Bodies.{AllWorks}, InitialValues.{initial_of}, code.Wires.{IsWire, IsOwns}}
use Rattle.name_resolution.specs.declared.body_resolution.work.ResolvedWork.TheVariants as resolved

-- ---- methods
-- what slot or native j of class i does
abbrev pub work_at : List (List ResolvedWork) → ℕ → ℕ → Option ResolvedWork
work_at works i j = option_and_then (λ of_class. slice_get of_class j) (slice_get works i)

abbrev pub found_work : Option ResolvedWork → Work
found_work None = work.Slot []
found_work (Some (resolved.Body body)) = work.Slot body
found_work (Some (resolved.Native effects)) = work.Native effects

abbrev pub work_of : List (List ResolvedWork) → Sort → Work
work_of works sort.Signal = work.Signal
work_of works sort.DeleteLater = work.Slot delete_later_body
work_of works (sort.Slot i j) = found_work (work_at works i j)

pub record IsMethodOf (outlines : List Outline) (works : List (List ResolvedWork)) (h : Heading) (method : MetaMethod) : Type 0 where
  pub signed : method.sig ≡ h.sig
  pub types : AllZip (IsReadAs outlines) h.sig.types method.types
  pub work : method.work ≡ work_of works h.sort

abbrev pub AreMethodsOf : List Outline → List (List ResolvedWork) → List Heading → List MetaMethod → Type 0
AreMethodsOf outlines works headings methods = AllZip (IsMethodOf outlines works) headings methods

-- ---- properties
-- the number of the notify signal, if one is given and is there
abbrev pub IsNotify : Outline → Option Sig → Option ℕ → Type 0
IsNotify outline None number = number ≡ None
IsNotify outline (Some sig) number = IsPlace (IsSignalOf sig) outline.methods number

pub record IsPropertyOf (outlines : List Outline) (outline : Outline) (declared : Property) (property : MetaProperty) : Type 0 where
  pub named : property.name ≡ declared.name
  pub typed : property.declared ≡ declared.kind
  pub kind : IsReadAs outlines declared.kind property.kind
  pub initial : property.initial ≡ initial_of declared.initial property.kind
  pub notify : IsNotify outline declared.notify property.notify

abbrev pub ArePropertiesOf : List Outline → Outline → List MetaProperty → Type 0
ArePropertiesOf outlines outline properties = AllZip (IsPropertyOf outlines outline) outline.properties properties

-- ---- classes
pub record IsObject (outlines : List Outline) (works : List (List ResolvedWork)) (outline : Outline) (object : MetaObject) : Type 0 where
  pub named : object.name ≡ outline.name
  pub based : object.base ≡ outline.base
  pub methods : AreMethodsOf outlines works outline.methods object.methods
  pub properties : ArePropertiesOf outlines outline object.properties

abbrev pub AreObjects : List Outline → List (List ResolvedWork) → List MetaObject → Type 0
AreObjects outlines works objects = AllZip (IsObject outlines works) outlines objects

-- ---- the program
-- what the slots and natives of the program do, its wires, its owns and its binding sites, in its order
pub record HasUses (program : Program) (outlines : List Outline) (works : List (List ResolvedWork)) (wires : List MetaWire) (owns : List MetaOwns) (sites : List MetaSite) : Type 0 where
  pub are_works : AllWorks outlines program.classes works
  pub wired : AllZip (IsWire outlines) program.wires wires
  pub owned : AllZip (IsOwns outlines) program.owns owns
  pub sited : AllZip (IsSite outlines) program.sites sites

-- the program's meta-objects are those of its outlines, with these
pub record IsLoaded (program : Program) (outlines : List Outline) (loaded : Loaded) : Type 0 where
  pub works : List (List ResolvedWork)
  pub uses : HasUses program outlines works loaded.wires loaded.owns loaded.sites
  pub objects : AreObjects outlines works loaded.classes
