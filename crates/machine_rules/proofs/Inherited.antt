-- Members of a class are members of the classes below it.
use Rattle.std.proofs.Common.{◌≡◌, inl, inr, ℕ, ◌<◌, ◌≤◌, List, length, Option, Some, None, slice_get, refl, sym, ap, ◌∙◌, arith}
use Rattle.std.specs.Option.{option_and_then}
use Rattle.std.proofs.lemmas.Option.{slice_get_cases, slice_get_within}
use Rattle.meta_model.specs.declared.object.MetaMethod.{MetaMethod}
use Rattle.meta_model.specs.declared.object.MetaObject.{MetaObject}
use Rattle.meta_model.specs.declared.object.MetaProperty.{MetaProperty}
use Rattle.meta_model.specs.Loaded.{Loaded}
use Rattle.meta_model.specs.Members.{IsClass, IsMethod, IsProperty, Below, same, under, base_of, method_count, methods_in}
use Rattle.meta_model.specs.Sound.{IsSound}
use Rattle.machine_rules.specs.Natives.{DeclaredBy, own, inherited}
use Rattle.machine_rules.proofs.Fields.{class-unique, some-is}
use Rattle.machine_rules.proofs.Lists.{get-append}

-- a class whose base is known is there
based : (found : Option MetaObject) (b : ℕ) → option_and_then (λ (class : MetaObject). class.base) found ≡ Some b → (class : MetaObject) × (found ≡ Some class) × (class.base ≡ Some b)
based None b e = absurd (cc e)
based (Some class) b e = (class, refl, e)

pub method-below : {p : Loaded} {d c m : ℕ} {method : MetaMethod} → IsSound p → Below p d c → IsMethod p c m method → IsMethod p d m method
method-below sound (same there) is = is
method-below {p} {d} {m = m} {method = method} sound (under {b = b} e rest) is =
    let found = based (slice_get p.classes d) b e in
    let is_class : IsClass p d found.0 = record { is = found.1 } in
    let above = (sound.classes d found.0 is_class).under b found.2 in
    let at_base = method-below sound rest is in
    let there : slice_get above.base.methods m ≡ Some method = sym (ap (λ (k : MetaObject). slice_get k.methods m) (class-unique at_base.is_class above.is)) ∙ at_base.is in
    record {
      class = found.0;
      is_class = is_class;
      is = ap (λ (l : List MetaMethod). slice_get l m) above.methods ∙ get-append above.base.methods above.own_methods m method there;
    }

pub property-below : {p : Loaded} {d c q : ℕ} {property : MetaProperty} → IsSound p → Below p d c → IsProperty p c q property → IsProperty p d q property
property-below sound (same there) is = is
property-below {p} {d} {q = q} {property = property} sound (under {b = b} e rest) is =
    let found = based (slice_get p.classes d) b e in
    let is_class : IsClass p d found.0 = record { is = found.1 } in
    let above = (sound.classes d found.0 is_class).under b found.2 in
    let at_base = property-below sound rest is in
    let there : slice_get above.base.properties q ≡ Some property = sym (ap (λ (k : MetaObject). slice_get k.properties q) (class-unique at_base.is_class above.is)) ∙ at_base.is in
    record {
      class = found.0;
      is_class = is_class;
      is = ap (λ (l : List MetaProperty). slice_get l q) above.properties ∙ get-append above.base.properties above.own_properties q property there;
    }

-- ---- the class that declares a method

-- a class has the methods below their count
pub method-counted : {p : Loaded} {c m : ℕ} {method : MetaMethod} → IsMethod p c m method → m < method_count p c
method-counted {p} {c} {m} {method} is =
    let count : method_count p c ≡ length is.class.methods = ap methods_in is.is_class.is in
    let within : m < length is.class.methods = slice_get_within is.class.methods m method is.is in
    omega (arith, within, count)

pub counted-method : (p : Loaded) (c m : ℕ) → m < method_count p c → (method : MetaMethod) × IsMethod p c m method
counted-method p c m = by_class (slice_get p.classes c) refl
  where
    by_class : (found : Option MetaObject) → slice_get p.classes c ≡ found → m < methods_in found → (method : MetaMethod) × IsMethod p c m method
    by_class None is less = absurd (omega (arith, less))
    by_class (Some class) is less = let cases = slice_get_cases class.methods m in elim cases.1 [
      | inl has ↦ (has.0, record { class = class; is_class = record { is = is }; is = has.2 })
      | inr past ↦ let beyond = past.0 in absurd (omega (arith, less, beyond))
    ]

-- its base has the method, or it has no such base
pub declared-above : {p : Loaded} {m c b d : ℕ} → base_of p c ≡ Some b → m < method_count p b → DeclaredBy p m b d → DeclaredBy p m c d
declared-above {p} {m} {b = b} base less rest = inherited base ((counted-method p b m less).1) rest

pub declared-here : {p : Loaded} {m c b : ℕ} → base_of p c ≡ Some b → method_count p b ≤ m → DeclaredBy p m c c
declared-here {p} {b = b} base past = own (λ k method other has.
    let counted = method-counted has in
    let same : method_count p b ≡ method_count p k = ap (method_count p) (some-is base other) in
    absurd (omega (arith, past, counted, same)))

pub declared-baseless : {p : Loaded} {m c : ℕ} → base_of p c ≡ None → DeclaredBy p m c c
declared-baseless none = own (λ k method base has. absurd (cc (sym none ∙ base)))
