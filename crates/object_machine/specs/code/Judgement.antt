-- What the code finds as it judges an event, and why it doesn't accept one (docs/machine.md, "Events").
use Rattle.std.specs.Prelude.{◌≡◌, ℕ, List, Result, Ok, Err, Some, slice_get}
use Rattle.syntax_trees.specs.declared.connection.Endpoints.{Endpoints as Named}
use Rattle.meta_model.specs.declared.object.MetaObject.{MetaObject}
use Rattle.meta_model.specs.declared.object.MetaProperty.{MetaProperty}
use Rattle.meta_model.specs.declared.site.MetaSite.{MetaSite}
use Rattle.meta_model.specs.Loaded.{Loaded}
use Rattle.meta_model.specs.Members.{IsClass, IsProperty}
use Rattle.object_tree.specs.declared.life.Life.{Life}
use Rattle.object_tree.specs.declared.object.Object.{Object}
use Rattle.object_tree.specs.Objects.{IsNamed, life_of}
use Rattle.trace_entries.specs.declared.refusal.Refusal.{Refusal}
use Rattle.machine_rules.specs.declared.ends.FoundEnds.{FoundEnds}
use Rattle.machine_rules.specs.Judgement.{Numbered}
use Rattle.object_machine.specs.declared.not_accepted.NotAccepted.{NotAccepted}
use Rattle.object_machine.specs.declared.not_accepted.NotAccepted.TheVariants.{Refused, Memory}
use Rattle.object_machine.specs.Events.{find_ends}

-- the living object of this name, and its life
pub record IsLiving (objects : List Object) (name : List ℕ) (o : Numbered Life) : Type 0 where
  pub named : IsNamed objects name o.number
  pub lives : life_of objects o.number ≡ Some o.it

-- the class of this name
abbrev pub IsClassOf : Loaded → List ℕ → Numbered MetaObject → Type 0
IsClassOf p name c = IsClass p c.number c.it × (c.it.name ≡ name)

-- the class's property of this name
abbrev pub IsPropertyOf : Loaded → ℕ → List ℕ → Numbered MetaProperty → Type 0
IsPropertyOf p class name q = IsProperty p class q.number q.it × (q.it.name ≡ name)

-- the program's binding site of this name
abbrev pub IsSiteOf : Loaded → List ℕ → Numbered MetaSite → Type 0
IsSiteOf p name n = (slice_get p.sites n.number ≡ Some n.it) × (n.it.name ≡ name)

-- these are the ends that an event names
abbrev pub FindsEnds : Loaded → List Object → Named (List ℕ) → FoundEnds → Type 0
FindsEnds p objects e f = find_ends p objects e (Ok f)

-- why the code doesn't accept the event: the judgement refuses it, or memory was refused
pub data IsNotAccepted {X : Type 0} (Judged : Result X Refusal → Type 0) : NotAccepted → Type 0 where
  refused : {k : Refusal} → Judged (Err k) → IsNotAccepted Judged (Refused k)
  short : IsNotAccepted Judged Memory
