-- What is notified of properties that changed.
use Rattle.std.{proofs.Common.{◌≡◌, ℕ, ◌⊎◌, inl, inr, List, [], ◌∷◌, length, take, cond, Option, Some, None, slice_get, refl, sym, ap, ◌∙◌, subst, arith}, specs.List.{AllByRecursion}, specs.Option.{option_and_then, option_map}, specs.Prelude.{is_some}}
use Rattle.basic_types.specs.declared.value.Value.{Value}
use Rattle.meta_model.specs.{declared.object.MetaMethod.{MetaMethod}, declared.object.MetaObject.{MetaObject}, declared.object.MetaProperty.{MetaProperty}, declared.object.ValueType.{ValueType}, declared.object.Work.{Work}, declared.object.Work.TheVariants.{Signal}, Loaded.{Loaded}, Members.{IsClass, property_at}, Sound.{IsSound}}
use Rattle.object_tree.{specs.declared.life.Life.{Life}, specs.declared.object.Object.{Object}, specs.Objects.{Lives, life_of, class_of, stored}, specs.Typed.{AreTyped, ReadsAs, ReadAs}, proofs.Changing.{life-of-lives, lives-of-life}}
use Rattle.binding_graph.specs.declared.place.Place.{Place}
use Rattle.machine_state.specs.{declared.world.World.{World}, State.{State, Activation, Update}, Worlds.{at}}
use Rattle.machine_rules.{specs.Good.{ArgumentsFit}, specs.code.Keeps.{StayThere}, specs.Reaches.{Calls}, specs.Rules.{Notifies, NotifiesIf, begun, UpdateRule}, specs.Settling.{signal_at, notified}, specs.There.{IsMember, IsField}, specs.Writing.{NotifiesBy, HasNotifier, MayNotify, Announces}, proofs.Delivered.{fit-of}, proofs.Dying.{lives-created}, proofs.Fields.{life-unique, member-method, old-there, stored-reads}, proofs.Keeps.{lived}, proofs.Lists.{all-weaken}, proofs.ReachedStates.{not-idle}, specs.Natives.{NativeAnswers}}

-- ---- the notify signal of a property

abbrev notify_of : Option MetaProperty → Option ℕ
notify_of found = option_and_then (λ (property : MetaProperty). property.notify) found

-- .. is found where it is declared
signal-is : {p : Loaded} (objects : List Object) (place : Place) {life : Life} → life_of objects place.object ≡ Some life → (n : HasNotifier p life.class place.property) → signal_at p objects place ≡ Some n.signal
signal-is {p} objects place {life} lives n =
    let class_is : class_of objects place.object ≡ Some life.class = ap (option_map (λ (l : Life). l.class)) lives in
    ap (λ (class : Option ℕ). notify_of (option_and_then (λ (k : ℕ). property_at p k place.property) class)) class_is
    ∙ ap (λ (found : Option MetaObject). notify_of (option_and_then (λ (c : MetaObject). slice_get c.properties place.property) found)) n.is.is_class.is
    ∙ ap notify_of n.is.is
    ∙ n.is.is_signal

-- .. and only there
announces-found : {p : Loaded} → IsSound p → (objects : List Object) (place : Place) (signal : ℕ) → signal_at p objects place ≡ Some signal → Announces p objects place signal
announces-found {p} program objects place signal found = by_life (life_of objects place.object) refl found
  where
    by_property : {x : Object} {life : Life} (class : MetaObject) → Lives objects place.object x life → slice_get p.classes life.class ≡ Some class → (there : Option MetaProperty) → slice_get class.properties place.property ≡ there → notify_of there ≡ Some signal → Announces p objects place signal
    by_property class lives is_class None is e = absurd (cc e)
    by_property {x} {life} class lives is_class (Some property) is e =
        let declared : IsClass p life.class class = record { is = is_class } in
        record {
          object = x;
          life = life;
          lives = lives;
          notifies = record {
            object = class;
            is_class = declared;
            property = property;
            is = is;
            is_signal = e;
            sound = ((program.classes life.class class declared).properties place.property property is).notifies signal e;
          };
        }

    by_class : {x : Object} {life : Life} → Lives objects place.object x life → (there : Option MetaObject) → slice_get p.classes life.class ≡ there → notify_of (option_and_then (λ (c : MetaObject). slice_get c.properties place.property) there) ≡ Some signal → Announces p objects place signal
    by_class lives None is e = absurd (cc e)
    by_class lives (Some class) is e = by_property class lives is (slice_get class.properties place.property) refl e

    by_life : (there : Option Life) → life_of objects place.object ≡ there → notify_of (option_and_then (λ (k : ℕ). property_at p k place.property) (option_map (λ (l : Life). l.class) there)) ≡ Some signal → Announces p objects place signal
    by_life None is e = absurd (cc e)
    by_life (Some life) is e = let there = lives-of-life objects place.object life is in by_class there.1 (slice_get p.classes life.class) refl e

-- a signal that is found
pub announces-signal : {p : Loaded} {objects : List Object} {place : Place} {found : Option ℕ} {signal : ℕ} → IsSound p → found ≡ signal_at p objects place → found ≡ Some signal → Announces p objects place signal
announces-signal {objects = objects} {place = place} {signal = signal} program is e = announces-found program objects place signal (sym is ∙ e)

-- ---- what may be notified

-- what has a notify signal may be
may-announce : {p : Loaded} {objects : List Object} {place : Place} {signal : ℕ} → Announces p objects place signal → MayNotify p objects place
may-announce {p} {objects} {place} {signal} a = record {
  created = lives-created a.lives;
  living = λ x life lives.
      let By : Life → Type 0 = λ l. NotifiesBy p l.class place.property signal in
      record { signal = signal; is = subst By (life-unique a.lives lives) a.notifies };
}

-- one that is to be notified may be, and so may those that come after it
one-notified : {p : Loaded} (objects : List Object) (place : Place) (rest : List Place) → IsSound p → AllByRecursion (MayNotify p objects) rest → (found : Option ℕ) → signal_at p objects place ≡ found → AllByRecursion (MayNotify p objects) (cond (is_some found) (place ∷ rest) rest)
one-notified objects place rest program all None is = all
one-notified objects place rest program all (Some signal) is = (may-announce (announces-found program objects place signal is), all)

-- all that are to be notified may be
pub all-notified : (p : Loaded) (objects : List Object) (changed : List Place) → IsSound p → AllByRecursion (MayNotify p objects) (notified p objects changed)
all-notified p objects [] program = tt
all-notified p objects (place ∷ changed) program =
    one-notified objects place (notified p objects changed) program (all-notified p objects changed program) (signal_at p objects place) refl

-- .. as long as the objects stay there
may-still : {p : Loaded} {old new : List Object} (place : Place) → StayThere old new → MayNotify p old place → MayNotify p new place
may-still {p} {old} {new} place stay may = record {
  created = omega (arith, may.created, stay.created);
  living = λ x life lives.
      let before = lived old new place.object stay may.created lives in
      let Of : ℕ → Type 0 = λ class. HasNotifier p class place.property in
      subst Of before.3 (may.living before.0 before.1 before.2);
}

pub all-may-still : (p : Loaded) (old new : List Object) (places : List Place) → StayThere old new → AllByRecursion (MayNotify p old) places → AllByRecursion (MayNotify p new) places
all-may-still p old new places stay all = all-weaken (MayNotify p old) (MayNotify p new) places (λ place may. may-still place stay may) all

-- none is left
pub no-places : (places : List Place) → length places ≡ 0 → places ≡ []
no-places [] e = refl
no-places (place ∷ places) e = absurd (omega (arith, e))

-- ---- one is notified

-- a dead one notifies nobody
silent-dead : {p : Loaded} (objects : List Object) (place : Place) → MayNotify p objects place → signal_at p objects place ≡ None → life_of objects place.object ≡ None
silent-dead {p} objects place may none = by_life (life_of objects place.object) refl
  where
    by_life : (there : Option Life) → life_of objects place.object ≡ there → there ≡ None
    by_life None is = refl
    by_life (Some life) is =
        let there = lives-of-life objects place.object life is in
        let n = may.living there.0 life there.1 in
        let both : None ≡ Some n.signal = sym none ∙ signal-is objects place is n in
        absurd (cc both)

pub dead-rule : {p : Loaded} {found : Option ℕ} (w : World) (place : Place) (rest : List Place) (below : List Activation) → MayNotify p w.store.tree place → found ≡ signal_at p w.store.tree place → found ≡ None → UpdateRule p (at w (Update (place ∷ rest) ∷ below)) below (at w (Update rest ∷ below)) (place ∷ rest)
dead-rule {p} w place rest below may is none =
    let gone : life_of w.store.tree place.object ≡ None = silent-dead w.store.tree place may (sym is ∙ none) in
    let Next : Option Life → Type 0 = λ life. NotifiesIf p (at w (Update (place ∷ rest) ∷ below)) (Update rest ∷ below) place (at w (Update rest ∷ below)) life in
    subst Next (sym gone) refl

-- the notify signal is there
pub announced-member : {p : Loaded} {objects : List Object} {place : Place} {signal : ℕ} → (a : Announces p objects place signal) → IsMember p objects place.object signal a.object a.notifies.sound.signal
announced-member a = record { life = a.life; lives = a.lives; is_method = record { class = a.notifies.object; is_class = a.notifies.is_class; is = a.notifies.sound.is } }

abbrev announced-field : {p : Loaded} {objects : List Object} {place : Place} {signal : ℕ} → (a : Announces p objects place signal) → IsField p objects place.object place.property a.object a.notifies.property
announced-field a = record { life = a.life; lives = a.lives; class = a.notifies.object; is_class = a.notifies.is_class; is_property = a.notifies.is }

-- .. and takes the property's value, or nothing
taken-fits : (p : Loaded) (objects : List Object) (present : Value) (kind : ValueType) (types : List ValueType) → (types ≡ []) ⊎ (types ≡ kind ∷ []) → ReadsAs p objects present kind → ReadAs p objects (take (length types) (present ∷ [])) types
taken-fits p objects present kind types (inl none) reads = subst (λ (l : List ValueType). ReadAs p objects (take (length l) (present ∷ [])) l) (sym none) tt
taken-fits p objects present kind types (inr one) reads = subst (λ (l : List ValueType). ReadAs p objects (take (length l) (present ∷ [])) l) (sym one) (reads, tt)

pub announced-value : {p : Loaded} {objects : List Object} {place : Place} {signal : ℕ} → (a : Announces p objects place signal) → AreTyped p objects → (v : Value) × (stored objects place.object place.property ≡ Some v)
announced-value a typed = old-there (announced-field a) typed

pub announced-fits : {p : Loaded} {objects : List Object} {place : Place} {signal count : ℕ} {x : Object} {method : MetaMethod} {present : Value} {taken : List Value} → Announces p objects place signal → AreTyped p objects → IsMember p objects place.object signal x method → stored objects place.object place.property ≡ Some present → taken ≡ take count (present ∷ []) → count ≡ length method.types → ArgumentsFit p objects place.object signal taken
announced-fits {p} {objects} {place} {signal} {count} {x} {method} {present} {taken} a typed is is_present cut count_is =
    let declared : MetaMethod = a.notifies.sound.signal in
    let method_is : declared ≡ method = member-method (announced-member a) is in
    let reads = stored-reads (announced-field a) typed is_present in
    let fits : ReadAs p objects (take (length declared.types) (present ∷ [])) declared.types = taken-fits p objects present a.notifies.property.kind declared.types a.notifies.sound.fits reads in
    let taken_is : taken ≡ take (length declared.types) (present ∷ []) = cut ∙ ap (λ (n : ℕ). take n (present ∷ [])) count_is ∙ ap (λ (k : MetaMethod). take (length k.types) (present ∷ [])) (sym method_is) in
    subst (λ (l : List Value). ArgumentsFit p objects place.object signal l) (sym taken_is) (fit-of (announced-member a) fits)

-- the notify signal begins by the next rule of the update
pub announcement-calls : {p : Loaded} {natives : NativeAnswers} {w : World} {place : Place} {signal count : ℕ} {x : Object} {method : MetaMethod} {present : Value} {taken : List Value} (rest : List Place) → Announces p w.store.tree place signal → IsMember p w.store.tree place.object signal x method → stored w.store.tree place.object place.property ≡ Some present → taken ≡ take count (present ∷ []) → count ≡ length method.types → Calls p natives w (Update (place ∷ rest) ∷ []) (Update rest ∷ []) place.object signal taken
announcement-calls {p} {natives} {w} {place} {signal} {count} {x} {method} {present} {taken} rest a is is_present cut count_is = record {
  no_lower = omega arith;
  objects = refl;
  goes_on = λ below. not-idle w _ below;
  gives = λ below t b.
      let o : ℕ = place.object in
      let s : State = at w (Update (place ∷ rest) ∷ below) in
      let over : List Activation = Update rest ∷ below in
      let n = a.notifies in
      let declared_is : n.sound.signal ≡ b.method = member-method (announced-member a) b.is in
      let found_is : method ≡ b.method = member-method is b.is in
      let work_is : b.method.work ≡ Signal = ap (λ (k : MetaMethod). k.work) (sym declared_is) ∙ n.sound.signals in
      let taken_is : taken ≡ take (length b.method.types) (present ∷ []) = cut ∙ ap (λ (i : ℕ). take i (present ∷ [])) count_is ∙ ap (λ (k : MetaMethod). take (length k.types) (present ∷ [])) found_is in
      let class_is : IsClass p b.is.life.class n.object = subst (λ (l : Life). IsClass p l.class n.object) (life-unique a.lives b.is.lives) n.is_class in
      let notifies : Notifies p s over place t = record {
        object = b.object;
        property = n.property;
        is = record { life = b.is.life; lives = b.is.lives; class = n.object; is_class = class_is; is_property = n.is };
        signal = signal;
        is_signal = n.is_signal;
        present = present;
        is_present = is_present;
        method = b.method;
        is_method = b.is.is_method;
        gives = b.gives ∙ ap (λ (l : List Value). begun s over o b.object signal b.method l b.method.work) taken_is ∙ ap (λ (k : Work). begun s over o b.object signal b.method (take (length b.method.types) (present ∷ [])) k) work_is;
      } in
      let Next : Option Life → Type 0 = λ life. NotifiesIf p s over place t life in
      subst Next (sym (life-of-lives b.is.lives)) notifies;
}
