-- What the sets of a group read, and what they write: properties that are there, as long as the values that were written
-- before fit.
use Rattle.std.{proofs.Common.{◌≡◌, ℕ, List, [], ◌∷◌, ◌++◌, Option, Some, None, refl, sym, ap, ◌∙◌, subst}, specs.Prelude.{IfSome}, specs.Option.{option_map, option_and_then}}
use Rattle.basic_types.specs.declared.value.Value.{Value}
use Rattle.syntax_trees.specs.declared.syntax.Expr.{Expr}
use Rattle.meta_model.specs.{declared.object.MetaPath.{MetaPath}, declared.object.Statement.{Statement}, declared.object.Statement.TheViews.{out-Statement}, declared.object.ValueType.{ValueType}, Loaded.{Loaded}, Members.{Below, IsProperty}, Sound.{IsSound, IsSoundStatement, set_sound, LeadsToClass, AreSound, next_sound}}
use Rattle.meta_model.specs.declared.object.Statement.TheOpen as layer
use Rattle.object_tree.{specs.declared.life.Life.{Life}, specs.declared.object.Object.{Object}, specs.Objects.{Lives}, specs.Typed.{AreTyped, ReadAs}, proofs.Changing.{life-of-lives}, proofs.TypedObjects.{reads-still, read-still, typed-written}}
use Rattle.prop_bindings.{specs.declared.plans.assignment.Assignment.{Assignment}, specs.Calls.{AllFit}, specs.Changes.{DifferInValues}, specs.Fits.{FitsAt}, proofs.Alive.{lives-on}, proofs.Values.{written-differs}}
use Rattle.binding_graph.specs.{declared.place.Place.{Place}, Places.{property_of}}
use Rattle.machine_state.specs.Telling.{Grouped, writes_of}
use Rattle.machine_rules.{specs.Operations.{led_to, set_in, sets_in, after_set}, specs.Paths.{path_value, value_of}, specs.There.{HasField}, proofs.Differing.{differ-stay}, proofs.Inherited.{property-below}}
use Rattle.object_machine.proofs.TypedPaths.{Reaches, to_null, to_object, path-reaches}

-- ---- objects that differ in values alone

pub values-still : (p : Loaded) (old new : List Object) → DifferInValues old new → (vs : List Value) (Ts : List ValueType) → ReadAs p old vs Ts → ReadAs p new vs Ts
values-still p old new differ =
    let stay = differ-stay old new differ in
    read-still p old new (record { stays = stay.living; rests = stay.dead })

module _ {p : Loaded} {old new : List Object} (differ : DifferInValues old new) where
  -- what fits a property does so still
  pub fits-still : {at : Place} {v : Value} → FitsAt p old at v → FitsAt p new at v
  fits-still {at} {v} f =
      let stay = differ-stay old new differ in
      let on = lives-on old new differ at.object f.life (life-of-lives f.lives) in
      record {
        object = on.object;
        life = on.life;
        lives = on.lives;
        property = f.property;
        is_property = subst (λ (c : ℕ). IsProperty p c at.property f.property) (sym on.same) f.is_property;
        reads = reads-still p old new (record { stays = stay.living; rests = stay.dead }) v f.property.kind f.reads;
      }

-- ---- what is so of all that a path may lead to

pub led-so : {X : Type 0} {p : Loaded} {objects : List Object} {c : ℕ} (P : X → Type 0) (null : X) (act : ℕ → Option X) (found : Option Value) → Reaches p objects c found → P null → ((y : ℕ) (x : Object) (l : Life) → Lives objects y x l → Below p l.class c → IfSome (act y) P) → IfSome (led_to null act found) P
led-so P null act found to_null none all = none
led-so P null act found (to_object {o = y} {x = x} {l = l} lives beneath) none all = all y x l lives beneath

pub mapped-so : {X Y : Type 0} (P : Y → Type 0) (act : X → Y) (found : Option X) → ((v : X) → P (act v)) → IfSome (option_map act found) P
mapped-so P act None all = tt
mapped-so P act (Some v) all = all v

-- what a set writes has this, if it writes
abbrev pub IfWrites : (Assignment → Type 0) → Option Assignment → Type 0
IfWrites P done = IfSome done P

-- ---- the sets of a group, for the body of an object

module _ {p : Loaded} (sound : IsSound p) (objects : List Object) (o me : ℕ) (x : Object) (l : Life) (arguments : List Value) (types : List ValueType) (lives : Lives objects o x l) (below : Below p l.class me) (fit : ReadAs p objects arguments types) where
  -- objects as a set of a group may read them: typed ones, which differ in values alone
  pub record Within (now : List Object) : Type 0 where
    pub differ : DifferInValues objects now
    pub typed : AreTyped p now

  pub within-first : AreTyped p objects → Within objects
  within-first typed = record { differ = refl; typed = typed }

  pub within-next : {now : List Object} → Within now → (a : Assignment) → FitsAt p objects a.place a.value → Within (after_set (Some a) now)
  within-next {now} w a f = record {
    differ = written-differs a.place.object a.place.property a.value now ∙ w.differ;
    typed = typed-written p now a.place.object a.place.property a.value (fits-still w.differ f) w.typed;
  }

  -- a path leads to null, or to an object that lives
  pub reaches-within : {now : List Object} → Within now → (path : MetaPath) {c : ℕ} → LeadsToClass p me types path c → Reaches p objects c (path_value now o arguments path)
  reaches-within {now} w path {c} leads =
      let on = lives-on objects now w.differ o l (life-of-lives lives) in
      let still : ReadAs p now arguments types = values-still p objects now w.differ arguments types fit in
      back (path_value now o arguments path) (path-reaches now o me on.object on.life arguments types path sound w.typed on.lives (subst (λ (k : ℕ). Below p k me) (sym on.same) below) still leads)
    where
      back : (found : Option Value) → Reaches p now c found → Reaches p objects c found
      back found to_null = to_null
      back found (to_object {o = y} {x = z} {l = k} alive beneath) =
          let on = lives-on now objects (sym w.differ) y k (life-of-lives alive) in
          to_object on.lives (subst (λ (d : ℕ). Below p d c) (sym on.same) beneath)

  abbrev pub set-act : List Object → ℕ → Expr MetaPath → ℕ → Option (Option Assignment)
  set-act now q e y = option_map (λ (new : Value). Some (record { place = property_of y q; value = new })) (value_of now o arguments e)

  -- what a set writes is there
  pub set-possible : {now : List Object} → Within now → (f : layer.Statement-F Statement) → IsSoundStatement p me types f → IfSome (set_in now o arguments f) (IfWrites (λ a. HasField p objects a.place))
  set-possible {now} w f (set_sound {path = path} {q = q} {e = e} is) =
      led-so (IfWrites (λ a. HasField p objects a.place)) None (set-act now q e) (path_value now o arguments path) (reaches-within w path is.leads) tt
      (λ y z k alive beneath. mapped-so (IfWrites (λ a. HasField p objects a.place)) (λ (new : Value). Some (record { place = property_of y q; value = new })) (value_of now o arguments e)
      (λ new. let own = property-below sound beneath is.is in record { object = z; property = _; is = record { life = k; lives = alive; class = own.class; is_class = own.is_class; is_property = own.is } }))
  set-possible w (layer.Emit m es) is = tt
  set-possible w (layer.Call path m es) is = tt
  set-possible w (layer.If e chosen other) is = tt
  set-possible w (layer.Connect ends how) is = tt
  set-possible w (layer.Disconnect ends) is = tt
  set-possible w (layer.Delete path) is = tt
  set-possible w (layer.Later path) is = tt
  set-possible w (layer.Group sets) is = tt

  -- .. and so is what the sets of a group write, up to the first value that doesn't fit
  abbrev ArePossible : List Statement → List Object → Type 0
  ArePossible sets now = (found : List (Option Assignment)) → sets_in now o arguments sets ≡ Some found
      → (front back : List Assignment) (a : Assignment) → writes_of (Grouped found) ≡ front ++ a ∷ back → AllFit p objects front → HasField p objects a.place

  -- what one set writes, and the others after it
  module _ (sets : List Statement) (again : (next : List Object) → Within next → ArePossible sets next) {now : List Object} (w : Within now) where
    after-one : (first : Option Assignment) → IfWrites (λ b. HasField p objects b.place) first → (more : Option (List (Option Assignment))) → sets_in (after_set first now) o arguments sets ≡ more
        → (found : List (Option Assignment)) → option_map (λ (l : List (Option Assignment)). first ∷ l) more ≡ Some found
        → (front back : List Assignment) (a : Assignment) → writes_of (Grouped found) ≡ front ++ a ∷ back → AllFit p objects front → HasField p objects a.place
    after-one first has None none found e front back a are before = absurd (cc e)
    after-one None has (Some more) is_more found e front back a are before =
        let found_is : None ∷ more ≡ found = cc e in
        again now w more is_more front back a (ap (λ (l : List (Option Assignment)). writes_of (Grouped l)) found_is ∙ are) before
    after-one (Some b) has (Some more) is_more found e front back a are before =
        let found_is : Some b ∷ more ≡ found = cc e in
        by_front front (ap (λ (l : List (Option Assignment)). writes_of (Grouped l)) found_is ∙ are) before
      where
        by_front : (front : List Assignment) → b ∷ writes_of (Grouped more) ≡ front ++ a ∷ back → AllFit p objects front → HasField p objects a.place
        by_front [] same fits = let here : b ≡ a = cc same in subst (λ (c : Assignment). HasField p objects c.place) here has
        by_front (f ∷ fs) same fits =
            let here : f ≡ b = cc same in
            let still : writes_of (Grouped more) ≡ fs ++ a ∷ back = cc same in
            again (after_set (Some b) now) (within-next w b (subst (λ (c : Assignment). FitsAt p objects c.place c.value) here fits.0)) more is_more fs back a still fits.1

    first-then : (first : Option (Option Assignment)) → IfSome first (IfWrites (λ b. HasField p objects b.place)) → (found : List (Option Assignment))
        → option_and_then (λ (d : Option Assignment). option_map (λ (l : List (Option Assignment)). d ∷ l) (sets_in (after_set d now) o arguments sets)) first ≡ Some found
        → (front back : List Assignment) (a : Assignment) → writes_of (Grouped found) ≡ front ++ a ∷ back → AllFit p objects front → HasField p objects a.place
    first-then None has found e front back a are before = absurd (cc e)
    first-then (Some d) has found e front back a are before = after-one d has (sets_in (after_set d now) o arguments sets) refl found e front back a are before

  pub sets-possible : (sets : List Statement) → AreSound p me types sets → {now : List Object} → Within now → ArePossible sets now
  sets-possible [] all w [] is [] back a are before = absurd (cc are)
  sets-possible [] all w [] is (f ∷ front) back a are before = absurd (cc are)
  sets-possible [] all w (d ∷ found) is front back a are before = absurd (cc is)
  sets-possible (s ∷ sets) (next_sound one rest) {now} w found is front back a are before =
      first-then sets (λ next within. sets-possible sets rest within) w (set_in now o arguments (out-Statement s)) (set-possible w (out-Statement s) one) found is front back a are before
