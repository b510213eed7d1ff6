-- A method that fits a signal by its declared types fits it by their value_types.
use Rattle.std.proofs.Common.{◌≡◌, ◌≢◌, inl, inr, ℕ, Bool, true, false, cond, List, [], ◌∷◌, ◌++◌, length, Some, slice_get, refl, sym, ap, ◌∙◌, subst, arith}
use Rattle.std.specs.List.{AllZip}
use Rattle.std.proofs.lemmas.Bool.{cases_eq, ne_eqb}
use Rattle.basic_types.specs.declared.qtype.QType.{QType}
use Rattle.basic_types.specs.Types.{Fits, value_type, int_name, bool_name, text_name}
use Rattle.meta_model.specs.declared.object.MetaMethod.{MetaMethod}
use Rattle.meta_model.specs.declared.object.ValueType.{ValueType}
use Rattle.meta_model.specs.declared.object.ValueType.TheVariants as kind
use Rattle.meta_model.specs.declared.qobject.TheConstants.{DESTROYED, DESTROYED_ALONE}
use Rattle.meta_model.specs.Loaded.{Loaded}
use Rattle.meta_model.specs.Members.{IsMethod}
use Rattle.meta_model.specs.Kinds.{IsKind}
use Rattle.meta_model.specs.Sound.{IsSound, AreDistinctClasses}
use Rattle.machine_rules.specs.Connecting.{named_signal}
use Rattle.meta_model.proofs.Roots.{destroyed_alone_types}

-- of what `int`, `bool` and `QString` differ
int-bool : value_type int_name ≡ value_type bool_name → ⊥
int-bool e = let n : 3 ≡ 4 = ap (λ (t : QType). length t.name) e in absurd (omega (arith, n))

int-text : value_type int_name ≡ value_type text_name → ⊥
int-text e = let n : 3 ≡ 7 = ap (λ (t : QType). length t.name) e in absurd (omega (arith, n))

bool-text : value_type bool_name ≡ value_type text_name → ⊥
bool-text e = let n : 4 ≡ 7 = ap (λ (t : QType). length t.name) e in absurd (omega (arith, n))

-- a value type is no pointer
no-pointer : {T : QType} (name : List ℕ) → T ≡ value_type name → T.pointer ≡ true → ⊥
no-pointer name e pointer = let no : false ≡ true = sym (ap (λ (t : QType). t.pointer) e) ∙ pointer in absurd (cc no)

-- a type has one kind
pub kind-unique : (p : Loaded) (T : QType) (a b : ValueType) → AreDistinctClasses p.classes → IsKind p T a → IsKind p T b → a ≡ b
kind-unique p T kind.Int kind.Int distinct x y = refl
kind-unique p T kind.Int kind.Bool distinct x y = absurd (int-bool (sym x ∙ y))
kind-unique p T kind.Int kind.Text distinct x y = absurd (int-text (sym x ∙ y))
kind-unique p T kind.Int (kind.Reference d k) distinct x y = absurd (no-pointer _ x y.0)
kind-unique p T kind.Bool kind.Int distinct x y = absurd (int-bool (sym y ∙ x))
kind-unique p T kind.Bool kind.Bool distinct x y = refl
kind-unique p T kind.Bool kind.Text distinct x y = absurd (bool-text (sym x ∙ y))
kind-unique p T kind.Bool (kind.Reference d k) distinct x y = absurd (no-pointer _ x y.0)
kind-unique p T kind.Text kind.Int distinct x y = absurd (int-text (sym y ∙ x))
kind-unique p T kind.Text kind.Bool distinct x y = absurd (bool-text (sym y ∙ x))
kind-unique p T kind.Text kind.Text distinct x y = refl
kind-unique p T kind.Text (kind.Reference d k) distinct x y = absurd (no-pointer _ x y.0)
kind-unique p T (kind.Reference c j) kind.Int distinct x y = absurd (no-pointer _ y x.0)
kind-unique p T (kind.Reference c j) kind.Bool distinct x y = absurd (no-pointer _ y x.0)
kind-unique p T (kind.Reference c j) kind.Text distinct x y = absurd (no-pointer _ y x.0)
kind-unique p T (kind.Reference c j) (kind.Reference d k) distinct x y =
    let same_class : c ≡ d = distinct c d x.2.class y.2.class x.2.is.is y.2.is.is (x.2.named ∙ sym y.2.named) in
    let same_constant : j ≡ k = sym x.1 ∙ y.1 in
    ap (λ (n : ℕ). kind.Reference n j) same_class ∙ ap (λ (b : Bool). kind.Reference d b) same_constant

-- the value_types of a front of types are a front of the types' value_types
pub types-front : (p : Loaded) (types front : List QType) (value_types fronts : List ValueType) (more : List QType) → AreDistinctClasses p.classes → AllZip (IsKind p) types value_types → AllZip (IsKind p) front fronts → types ≡ front ++ more → (rest : List ValueType) × (value_types ≡ fronts ++ rest)
types-front p types [] value_types [] more distinct x y e = (value_types, refl)
types-front p types [] value_types (k ∷ fronts) more distinct x y e = absurd y
types-front p types (T ∷ front) value_types [] more distinct x y e = absurd y
types-front p [] (T ∷ front) value_types (k ∷ fronts) more distinct x y e = absurd (cc e)
types-front p (U ∷ types) (T ∷ front) [] (k ∷ fronts) more distinct x y e = absurd x
types-front p (U ∷ types) (T ∷ front) (l ∷ value_types) (k ∷ fronts) more distinct x y e =
    let first : U ≡ T = cc e in
    let later : types ≡ front ++ more = cc e in
    let found = types-front p types front value_types fronts more distinct x.1 y.1 later in
    let same : l ≡ k = kind-unique p T l k distinct (subst (λ (t : QType). IsKind p t l) first x.0) y.0 in
    (found.0, ap (λ (h : ValueType). h ∷ value_types) same ∙ ap (λ (ks : List ValueType). k ∷ ks) found.1)

-- the value_types that a method declares
value_types-of : {p : Loaded} {c m : ℕ} {method : MetaMethod} → IsSound p → IsMethod p c m method → AllZip (IsKind p) method.sig.types method.types
value_types-of {c = c} {m = m} {method = method} sound is = ((sound.classes c is.class is.is_class).methods m method is.is).types

none-value_types : (p : Loaded) (types : List QType) (value_types : List ValueType) → types ≡ [] → AllZip (IsKind p) types value_types → value_types ≡ []
none-value_types p [] [] e x = refl
none-value_types p [] (k ∷ value_types) e x = absurd x
none-value_types p (T ∷ types) value_types e x = absurd (cc e)

-- nothing but nothing is a front of nothing
front-none : (front more : List QType) → [] ≡ front ++ more → front ≡ []
front-none [] more e = refl
front-none (T ∷ front) more e = absurd (cc e)

-- a list with a second element has a first
first-there : {X : Type 0} (xs : List X) (x : X) → slice_get xs 1 ≡ Some x → (y : X) × (slice_get xs 0 ≡ Some y)
first-there [] x e = absurd (cc e)
first-there (y ∷ xs) x e = (y, refl)

-- a spelling that isn't `destroyed()` names itself
named-other : (g : ℕ) → g ≢ DESTROYED_ALONE → named_signal g ≡ g
named-other g other = ap (λ (b : Bool). cond b DESTROYED g) (ne_eqb g DESTROYED_ALONE other)

-- a method of the class that gives what this one takes
abbrev Gives : Loaded → ℕ → MetaMethod → ℕ → Type 0
Gives p c method n = (kept : MetaMethod) × IsMethod p c n kept × ((rest : List ValueType) × (kept.types ≡ method.types ++ rest))

destroyed-gives : {p : Loaded} {c d m : ℕ} {signal method : MetaMethod} → IsSound p → IsMethod p c DESTROYED_ALONE signal → IsMethod p d m method → Fits signal.sig method.sig → Gives p c method DESTROYED
destroyed-gives {p} {c} {signal = signal} {method = method} sound is has fits =
    let none = destroyed_alone_types sound c signal is in
    let takes_none = front-none method.sig.types fits.0 (sym none ∙ fits.1) in
    let empty : method.types ≡ [] = none-value_types p method.sig.types method.types takes_none (value_types-of sound has) in
    let first = first-there is.class.methods signal is.is in
    let all : first.0.types ≡ method.types ++ first.0.types = sym (ap (λ (ks : List ValueType). ks ++ first.0.types) empty) in
    (first.0, record { class = is.class; is_class = is.is_class; is = first.1 }, (first.0.types, all))

-- the signal that a spelling names is there
pub named-there : {p : Loaded} {c : ℕ} (g : ℕ) {signal : MetaMethod} → IsMethod p c g signal → (kept : MetaMethod) × IsMethod p c (named_signal g) kept
named-there {p} {c} g {signal} is =
    let Is : ℕ → Type 0 = λ n. IsMethod p c n signal in
    let There : ℕ → Type 0 = λ n. (kept : MetaMethod) × IsMethod p c n kept in
    elim (cases_eq g DESTROYED_ALONE) as (λ r. There (named_signal g)) [
      | inl same ↦
          let alone : IsMethod p c DESTROYED_ALONE signal = subst Is same is in
          let first = first-there alone.class.methods signal alone.is in
          subst (λ (n : ℕ). There (named_signal n)) (sym same) (first.0, record { class = alone.class; is_class = alone.is_class; is = first.1 })
      | inr other ↦ subst There (sym (named-other g other)) (signal, is)
    ]

-- the signal that a connection keeps gives what a method takes that fits the signal that is spelled
pub types-fit : {p : Loaded} {c d g m : ℕ} {signal method : MetaMethod} → IsSound p → IsMethod p c g signal → IsMethod p d m method → Fits signal.sig method.sig → (kept : MetaMethod) × IsMethod p c (named_signal g) kept × ((rest : List ValueType) × (kept.types ≡ method.types ++ rest))
types-fit {p} {c} {g = g} {signal = signal} {method = method} sound is has fits =
    let Is : ℕ → Type 0 = λ n. IsMethod p c n signal in
    elim (cases_eq g DESTROYED_ALONE) as (λ r. Gives p c method (named_signal g)) [
      | inl same ↦ subst (λ (n : ℕ). Gives p c method (named_signal n)) (sym same) (destroyed-gives sound (subst Is same is) has fits)
      | inr other ↦ subst (λ (n : ℕ). Gives p c method n) (sym (named-other g other))
          (signal, is, types-front p signal.sig.types method.sig.types signal.types method.types fits.0 sound.distinct_classes (value_types-of sound is) (value_types-of sound has) fits.1)
    ]
