-- Paths that loading resolved lead to values of their types.
use Rattle.std.{proofs.Common.{◌≡◌, ℕ, Bool, List, Option, Some, None, refl, ap, ◌∙◌, sym, subst}, specs.Option.{option_map}}
use Rattle.basic_types.specs.{declared.value.Value.{Value}, Values.{number_has, truth_has, text_has, null_has, object_has}}
use Rattle.basic_types.specs.declared.value.Value.TheVariants as value
use Rattle.meta_model.specs.{declared.object.MetaPath.{MetaPath}, declared.object.MetaProperty.{MetaProperty}, declared.object.MetaRoot.{MetaRoot}, declared.object.Step.{Step}, declared.object.ValueType.{ValueType}, Loaded.{Loaded}, Members.{IsProperty, Below}, Sound.{IsSound, HasRoot, this_has, parameter_has, Leads, here, on, LeadsTo, LeadsToClass}, Values.{default, Has}}
use Rattle.meta_model.specs.declared.object.ValueType.TheVariants as type
use Rattle.object_tree.{specs.declared.life.Life.{Life}, specs.declared.object.Object.{Object}, specs.Objects.{Lives, class_of, stored}, specs.Seen.{seen}, specs.Typed.{AreTyped, ReadAs}, proofs.TypedObjects.{has-reads}}
use Rattle.machine_rules.{specs.Paths.{root_value, step_value, steps_value, path_value}, specs.There.{IsField}, proofs.Fields.{old-there, stored-reads, read-get, read-there}, proofs.Keeps.{lives-of-class, class-of-lives}, proofs.Inherited.{property-below}}

-- a value of a type is found
pub record Yields (p : Loaded) (objects : List Object) (T : ValueType) (found : Option Value) : Type 0 where
  pub given : Value
  pub is : found ≡ Some given
  pub has : Has p (class_of objects) given T

default-has : {p : Loaded} {class : ℕ → Option ℕ} (T : ValueType) → Has p class (default T) T
default-has type.Int = number_has
default-has type.Bool = truth_has
default-has type.Text = text_has
default-has (type.Reference c constant) = null_has

module _ {p : Loaded} {objects : List Object} (sound : IsSound p) (typed : AreTyped p objects) where
  -- a property of a living object's class, or of one above it, has a value that reads as its type
  stored-has : (o d c q : ℕ) {property : MetaProperty} → class_of objects o ≡ Some d → Below p d c → IsProperty p c q property → Yields p objects property.kind (option_map (seen objects) (stored objects o q))
  stored-has o d c q {property} is below there =
      let x = lives-of-class objects o d is in
      let its = property-below sound below there in
      let At : ℕ → Type 0 = λ k. IsProperty p k q property in
      let own : IsProperty p (x.1).class q property = subst At (sym x.3) its in
      let field : IsField p objects o q x.0 property = record { life = x.1; lives = x.2; class = own.class; is_class = own.is_class; is_property = own.is } in
      let found = old-there field typed in
      record { given = seen objects found.0; is = ap (option_map (seen objects)) found.1; has = stored-reads field typed found.1 }

  step-has : (s : Step) (v : Value) {c : ℕ} {constant : Bool} {property : MetaProperty} → Has p (class_of objects) v (type.Reference c constant) → IsProperty p c s.property property → property.kind ≡ s.kind → Yields p objects s.kind (step_value objects s v)
  step-has s v null_has is kind = record { given = default s.kind; is = refl; has = default-has s.kind }
  step-has s v {c} (object_has {o = o} {d = d} there below) is kind =
      let At : ValueType → Type 0 = λ T. Yields p objects T (step_value objects s v) in
      subst At kind (stored-has o d c s.property there below is)

  steps-have : (steps : List Step) {T U : ValueType} (v : Value) → Has p (class_of objects) v T → Leads p T steps U → Yields p objects U (steps_value objects steps (Some v))
  steps-have steps v has here = record { given = v; is = refl; has = has }
  steps-have steps v has (on {s = s} {steps = rest} is kind more) =
      let next = step-has s v has is kind in
      let end = steps-have rest next.given next.has more in
      record { given = end.given; is = ap (steps_value objects rest) next.is ∙ end.is; has = end.has }

  -- .. for an object that is of the class that `this` is declared to be of, and arguments of the parameters' types
  module _ (o me : ℕ) (x : Object) (l : Life) (arguments : List Value) (types : List ValueType) (lives : Lives objects o x l) (below : Below p l.class me) (fit : ReadAs p objects arguments types) where
    root-has : (root : MetaRoot) {T : ValueType} → HasRoot me types root T → Yields p objects T (option_map (seen objects) (root_value o arguments root))
    root-has root {T} this_has = record { given = seen objects (value.Ref (Some o)); is = refl; has = has-reads p objects (value.Ref (Some o)) T (object_has (class-of-lives objects o lives) below) }
    root-has root (parameter_has {k = k} {T = T} is) =
        let found = read-there p objects arguments types k T fit is in
        record { given = seen objects found.0; is = ap (option_map (seen objects)) found.1; has = read-get p objects arguments types k found.0 T fit found.1 is }

    pub path-has : (path : MetaPath) {T : ValueType} → LeadsTo p me types path T → Yields p objects T (path_value objects o arguments path)
    path-has path leads =
        let start = root-has path.root leads.root in
        let end = steps-have path.steps start.given start.has leads.steps in
        record { given = end.given; is = ap (steps_value objects path.steps) start.is ∙ end.is; has = end.has }

-- what is found is null, or an object of the class or of one below it
pub data Reaches (p : Loaded) (objects : List Object) (c : ℕ) : Option Value → Type 0 where
  to_null : Reaches p objects c (Some (value.Ref None))
  to_object : {o : ℕ} {x : Object} {l : Life} → Lives objects o x l → Below p l.class c → Reaches p objects c (Some (value.Ref (Some o)))

reaches-has : {p : Loaded} {objects : List Object} {c : ℕ} {constant : Bool} (v : Value) → Has p (class_of objects) v (type.Reference c constant) → Reaches p objects c (Some v)
reaches-has v null_has = to_null
reaches-has {p} {objects} {c} v (object_has {o = o} {d = d} is below) =
    let x = lives-of-class objects o d is in
    let At : ℕ → Type 0 = λ k. Below p k c in
    to_object x.2 (subst At (sym x.3) below)

-- a path in the place of an object leads to null, or to an object that has the class's members
pub path-reaches : {p : Loaded} (objects : List Object) (o me : ℕ) {c : ℕ} (x : Object) (l : Life) (arguments : List Value) (types : List ValueType) (path : MetaPath) → IsSound p → AreTyped p objects → Lives objects o x l → Below p l.class me → ReadAs p objects arguments types → LeadsToClass p me types path c → Reaches p objects c (path_value objects o arguments path)
path-reaches {p} objects o me {c} x l arguments types path sound typed lives below fit leads =
    let found = path-has sound typed o me x l arguments types lives below fit path leads.leads in
    let At : Option Value → Type 0 = λ v. Reaches p objects c v in
    subst At (sym found.is) (reaches-has found.given found.has)
