-- The names of what is loaded.
use Rattle.std.{proofs.Common.{◌≡◌, ◌≢◌, ◌∙◌, ℕ, zero, suc, ◌<◌, Bool, true, false, ◌&&◌, nat_eq, List, [], ◌∷◌, ◌++◌, length, slice_get, Some, codes, refl, sym, ap, subst, arith}, specs.List.{AllByRecursion, AllZip}, proofs.lemmas.Bool.{eq-eqb, false≢true}, proofs.lemmas.List.Elements.{All-from_recursion}, proofs.lemmas.Option.{same_Some, none-some, slice_get_within}}
use Rattle.basic_types.specs.{Laws.{IsNormalSig}, Name.{is_name_byte}, Signatures.{IsFreeName}, Types.{text_name}, Words.{IsFree, word_spelling}}
use Rattle.basic_types.specs.declared.word.Word.TheVariants as word
use Rattle.syntax_trees.specs.{declared.program.Property.{Property}, declared.program.Signal.{Signal}, declared.program.Slot.{Slot}, declared.program.Class.{Class}, declared.program.Program.{Program}}
use Rattle.meta_model.specs.{declared.object.MetaMethod.{MetaMethod}, declared.object.MetaProperty.{MetaProperty}, declared.object.MetaObject.{MetaObject}, Loaded.{Loaded}, Members.{IsClass}, QObject.{sig_of}, Root.{root_class}}
use Rattle.class_outlines.specs.Outlines.{types_of}
use Rattle.meta_objects.specs.LoadedProgram.{IsLoadedSignal, IsLoadedSlot, IsLoadedProperty, IsLoadedClass, IsLoadedProgram}
use Rattle.program_commands.specs.Names.{IsNamedClass, IsNamedProgram, IsNamedObject, LoadedProgramsAreNamed}

-- ---- lists
all_behind : {X : Type 0} (P : X → Type 0) (xs ys : List X) → AllByRecursion P xs → AllByRecursion P ys → AllByRecursion P (xs ++ ys)
all_behind P [] ys h k = k
all_behind P (x ∷ xs) ys h k = (h.0, all_behind P xs ys h.1 k)

pub all_at : {X : Type 0} (P : X → Type 0) (xs : List X) → ((k : ℕ) (x : X) → slice_get xs k ≡ Some x → P x) → AllByRecursion P xs
all_at P [] h = tt
all_at P (x ∷ xs) h = (h 0 x refl, all_at P xs (λ k y e. h (suc k) y e))

pub at_all : {X : Type 0} (P : X → Type 0) (xs : List X) → AllByRecursion P xs → (k : ℕ) (x : X) → slice_get xs k ≡ Some x → P x
at_all P [] h k x e = absurd (none-some x e)
at_all P (y ∷ ys) h zero x e = subst P (same_Some y x e) h.0
at_all P (y ∷ ys) h (suc k) x e = at_all P ys h.1 k x e

inside : {X : Type 0} (xs : List X) (k : ℕ) → k < length xs → (x : X) × (slice_get xs k ≡ Some x)
inside [] k h = absurd (omega arith)
inside (x ∷ xs) zero h = (x, refl)
inside (x ∷ xs) (suc k) h = inside xs k (omega arith)

-- what holds of declared parts holds of the loaded ones
all_along : {X Y : Type 0} (R : X → Y → Type 0) (P : X → Type 0) (Q : Y → Type 0) → ((x : X) (y : Y) → R x y → P x → Q y) → (xs : List X) (ys : List Y) → AllZip R xs ys → AllByRecursion P xs → AllByRecursion Q ys
all_along R P Q so [] [] zip h = tt
all_along R P Q so [] (y ∷ ys) zip h = absurd zip
all_along R P Q so (x ∷ xs) [] zip h = absurd zip
all_along R P Q so (x ∷ xs) (y ∷ ys) zip h = (so x y zip.0 h.0, all_along R P Q so xs ys zip.1 h.1)

-- ---- QObject
abbrev same : List ℕ → List ℕ → Bool
same [] [] = true
same [] (y ∷ ys) = false
same (x ∷ xs) [] = false
same (x ∷ xs) (y ∷ ys) = nat_eq x y && same xs ys

same_itself : (xs : List ℕ) → same xs xs ≡ true
same_itself [] = refl
same_itself (x ∷ xs) = let one : nat_eq x x ≡ true = eq-eqb x x refl in rw one (same_itself xs)

differs : (xs ys : List ℕ) → same xs ys ≡ false → xs ≢ ys
differs xs ys other e = false≢true (sym other ∙ (ap (λ (zs : List ℕ). same xs zs) (sym e) ∙ same_itself xs))

qobject_free : IsFreeName (codes "QObject")
qobject_free = record { name = (refl, All-from_recursion (λ b. is_name_byte b ≡ true) (codes "Object") (refl, (refl, (refl, (refl, (refl, (refl, tt))))))); free = free }
  where
    free : IsFree (codes "QObject")
    free word.Class = differs (codes "QObject") (codes "class") refl
    free w = differs (codes "QObject") (word_spelling w) refl

qstring_free : IsFreeName text_name
qstring_free = record { name = (refl, All-from_recursion (λ b. is_name_byte b ≡ true) (codes "String") (refl, (refl, (refl, (refl, (refl, (refl, tt))))))); free = free }
  where
    free : IsFree text_name
    free word.Class = differs text_name (codes "class") refl
    free w = differs text_name (word_spelling w) refl

destroyed_free : IsFreeName (codes "destroyed")
destroyed_free = record { name = (refl, All-from_recursion (λ b. is_name_byte b ≡ true) (codes "estroyed") (refl, (refl, (refl, (refl, (refl, (refl, (refl, (refl, tt))))))))); free = free }
  where
    free : IsFree (codes "destroyed")
    free word.Class = differs (codes "destroyed") (codes "class") refl
    free w = differs (codes "destroyed") (word_spelling w) refl

changed_free : IsFreeName (codes "objectNameChanged")
changed_free = record { name = (refl, All-from_recursion (λ b. is_name_byte b ≡ true) (codes "bjectNameChanged") (refl, (refl, (refl, (refl, (refl, (refl, (refl, (refl, (refl, (refl, (refl, (refl, (refl, (refl, (refl, (refl, tt))))))))))))))))); free = free }
  where
    free : IsFree (codes "objectNameChanged")
    free word.Class = differs (codes "objectNameChanged") (codes "class") refl
    free w = differs (codes "objectNameChanged") (word_spelling w) refl

name_free : IsFreeName (codes "objectName")
name_free = record { name = (refl, All-from_recursion (λ b. is_name_byte b ≡ true) (codes "bjectName") (refl, (refl, (refl, (refl, (refl, (refl, (refl, (refl, (refl, tt)))))))))); free = free }
  where
    free : IsFree (codes "objectName")
    free word.Class = differs (codes "objectName") (codes "class") refl
    free w = differs (codes "objectName") (word_spelling w) refl

later_free : IsFreeName (codes "deleteLater")
later_free = record { name = (refl, All-from_recursion (λ b. is_name_byte b ≡ true) (codes "eleteLater") (refl, (refl, (refl, (refl, (refl, (refl, (refl, (refl, (refl, (refl, tt))))))))))); free = free }
  where
    free : IsFree (codes "deleteLater")
    free word.Class = differs (codes "deleteLater") (codes "class") refl
    free w = differs (codes "deleteLater") (word_spelling w) refl

root_named : IsNamedObject root_class
root_named = record {
  named = qobject_free;
  methods = (
    record { named = destroyed_free; types = (record { named = qobject_free; const_pointer = λ e. refl }, tt); few = omega arith },
    (
      record { named = destroyed_free; types = tt; few = omega arith },
      (
        record { named = changed_free; types = (record { named = qstring_free; const_pointer = λ e. absurd (false≢true e) }, tt); few = omega arith },
        (
          record { named = later_free; types = tt; few = omega arith },
          tt,
        ),
      ),
    ),
  );
  properties = (name_free, tt);
}

-- ---- declared classes
module _ (program : Program) (p : Loaded) (named : IsNamedProgram program) (is : IsLoadedProgram program p) where
  signals_named : (xs : List Signal) (ys : List MetaMethod) → AllZip (IsLoadedSignal p) xs ys → AllByRecursion (λ (x : Signal). IsNormalSig (sig_of x.name (types_of x.parameters))) xs → AllByRecursion (λ (m : MetaMethod). IsNormalSig m.sig) ys
  signals_named = all_along (IsLoadedSignal p) (λ (x : Signal). IsNormalSig (sig_of x.name (types_of x.parameters))) (λ (m : MetaMethod). IsNormalSig m.sig) (λ x y loaded normal. subst IsNormalSig (sym loaded.signed) normal)

  slots_named : (c : ℕ) (xs : List Slot) (ys : List MetaMethod) → AllZip (IsLoadedSlot p c) xs ys → AllByRecursion (λ (x : Slot). IsNormalSig (sig_of x.name (types_of x.parameters))) xs → AllByRecursion (λ (m : MetaMethod). IsNormalSig m.sig) ys
  slots_named c = all_along (IsLoadedSlot p c) (λ (x : Slot). IsNormalSig (sig_of x.name (types_of x.parameters))) (λ (m : MetaMethod). IsNormalSig m.sig) (λ x y loaded normal. subst IsNormalSig (sym loaded.signed) normal)

  properties_named : (class : MetaObject) (xs : List Property) (ys : List MetaProperty) → AllZip (IsLoadedProperty p class) xs ys → AllByRecursion (λ (x : Property). IsFreeName x.name) xs → AllByRecursion (λ (q : MetaProperty). IsFreeName q.name) ys
  properties_named class = all_along (IsLoadedProperty p class) (λ (x : Property). IsFreeName x.name) (λ (q : MetaProperty). IsFreeName q.name) (λ x y loaded free. subst IsFreeName (sym loaded.named) free)

  class_named : (c : ℕ) (declared : Class) (class : MetaObject) → IsNamedClass declared → (loaded : IsLoadedClass p c declared class) → IsNamedObject loaded.base → IsNamedObject class
  class_named c declared class h loaded base = record {
    named = subst IsFreeName (sym loaded.named) h.named;
    methods = subst (AllByRecursion (λ (m : MetaMethod). IsNormalSig m.sig)) (sym loaded.methods)
        (all_behind (λ (m : MetaMethod). IsNormalSig m.sig) (loaded.base.methods ++ loaded.signals) loaded.slots
        (all_behind (λ (m : MetaMethod). IsNormalSig m.sig) loaded.base.methods loaded.signals base.methods (signals_named declared.signals loaded.signals loaded.are_signals h.signals))
        (slots_named c declared.slots loaded.slots loaded.are_slots h.slots));
    properties = subst (AllByRecursion (λ (q : MetaProperty). IsFreeName q.name)) (sym loaded.properties)
        (all_behind (λ (q : MetaProperty). IsFreeName q.name) loaded.base.properties loaded.own_properties base.properties (properties_named class declared.properties loaded.own_properties loaded.are_properties h.properties));
  }

  -- a class's base stands before it
  named_below : (n c : ℕ) → c < n → (class : MetaObject) → IsClass p c class → IsNamedObject class
  named_below zero c low class at = absurd (omega arith)
  named_below (suc n) zero low class at = subst IsNamedObject (same_Some root_class class (sym is.root.is ∙ at.is)) root_named
  named_below (suc n) (suc i) low class at =
      let within = slice_get_within p.classes (suc i) class at.is in
      let counted = is.counted in
      let here : i < length program.classes = omega arith in
      let declared = inside program.classes i here in
      let has = is.classes i declared.0 declared.1 in
      let loaded = has.loaded in
      let smaller = loaded.smaller in
      let base = named_below n loaded.base_number (omega arith) loaded.base loaded.is_base in
      let same : has.class ≡ class = same_Some has.class class (sym has.is.is ∙ at.is) in
      subst IsNamedObject same (class_named (suc i) declared.0 has.class (at_all IsNamedClass program.classes named i declared.0 declared.1) loaded base)

pub loaded_is_named : LoadedProgramsAreNamed
loaded_is_named program p named builds =
    all_at IsNamedObject p.classes (λ c class at. named_below program p named builds.declared (suc c) c (omega arith) class (record { is = at }))
