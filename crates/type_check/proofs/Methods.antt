-- A method is declared by one class, and has one body.
use Rattle.std.proofs.Common.{◌≡◌, ◌↔◌, ℕ, ◌+◌, ◌<◌, ◌≤◌, List, length, slice_get, Option, None, Some, refl, sym, ap, ◌∙◌, subst, arith}
use Rattle.std.specs.Option.{option_and_then}
use Rattle.std.proofs.lemmas.List.{length-append}
use Rattle.std.proofs.lemmas.Option.{none-some, same_Some, slice_get_within}
use Rattle.meta_model.specs.declared.object.ValueType.{ValueType}
use Rattle.meta_model.specs.declared.object.Statement.{Statement}
use Rattle.meta_model.specs.declared.object.Work.{Work}
use Rattle.meta_model.specs.declared.object.Work.TheVariants.{Slot}
use Rattle.meta_model.specs.declared.object.MetaObject.{MetaObject}
use Rattle.meta_model.specs.declared.object.MetaMethod.{MetaMethod}
use Rattle.meta_model.specs.Loaded.{Loaded}
use Rattle.meta_model.specs.Members.{IsMethod, Below, same, under, base_of, methods_in, methods_before, method_count, method_offset, Declares}
use Rattle.meta_model.specs.Sound.{IsSound}
use Rattle.effect_scan.specs.declared.node.Member.{Member}
use Rattle.effect_scan.specs.declared.node.Member.TheVariants.{Method, Property, Destruction}
use Rattle.type_check.specs.Bodies.{IsTypedBody}
use Rattle.type_check.specs.Typed.{IsTypedWork, IsTypedMember, IsTypedMemberHere}

pub based : (found : Option MetaObject) (b : ℕ) → option_and_then (λ (class : MetaObject). class.base) found ≡ Some b → (class : MetaObject) × (found ≡ Some class) × (class.base ≡ Some b)
based None b e = absurd (none-some b e)
based (Some class) b e = (class, refl, e)

module _ (p : Loaded) (sound : IsSound p) where
  -- a base has no more methods, and a smaller number
  base_count : (c b : ℕ) → base_of p c ≡ Some b → method_count p b ≤ method_count p c
  base_count c b e =
      let found = based (slice_get p.classes c) b e in
      let above = (sound.classes c found.0 (record { is = found.1 })).under b found.2 in
      let count : method_count p b ≡ length above.base.methods = ap methods_in above.is.is in
      let own : method_count p c ≡ length found.0.methods = ap methods_in found.1 in
      let sum : length found.0.methods ≡ length above.base.methods + length above.own_methods = ap (λ (l : List MetaMethod). length l) above.methods ∙ length-append above.base.methods above.own_methods in
      omega arith

  base_low : (c b : ℕ) → base_of p c ≡ Some b → b < c
  base_low c b e =
      let found = based (slice_get p.classes c) b e in
      ((sound.classes c found.0 (record { is = found.1 })).under b found.2).smaller

  pub below_count : (c d : ℕ) → Below p c d → method_count p d ≤ method_count p c
  below_count c d (same is) = omega arith
  below_count c d (under {b = b} e rest) =
      let one = base_count c b e in
      let more = below_count b d rest in
      omega arith

  pub below_low : (c d : ℕ) → Below p c d → d ≤ c
  below_low c d (same is) = omega arith
  below_low c d (under {b = b} e rest) =
      let one = base_low c b e in
      let more = below_low b d rest in
      omega arith

  pub declared_once : (c d m : ℕ) → method_offset p c ≤ m → Below p c d → Declares p d m → d ≡ c
  declared_once c d m after (same is) declares = refl
  declared_once c d m after (under {b = b} e rest) declares =
      let offset : method_offset p c ≡ method_count p b = ap (methods_before p) e in
      let count = below_count b d rest in
      let within = declares.within in
      absurd (omega arith)

  same_method : (c m : ℕ) (a b : MetaMethod) → IsMethod p c m a → IsMethod p c m b → a ≡ b
  same_method c m a b h k =
      let class : h.class ≡ k.class = same_Some _ _ (sym h.is_class.is ∙ k.is_class.is) in
      same_Some _ _ (sym h.is ∙ ap (λ (x : MetaObject). slice_get x.methods m) class ∙ k.is)

  -- a method that the class doesn't inherit is judged by its own body
  pub method_here : (c m : ℕ) (method : MetaMethod) → IsMethod p c m method → method_offset p c ≤ m → IsTypedWork p c method.types method.work ↔ IsTypedMemberHere p c (Method m)
  method_here c m method is after = (
    λ typed. λ declares d other below declared at.
        let once : d ≡ c = declared_once c d m after below declared in
        let here : IsMethod p c m other = subst (λ (k : ℕ). IsMethod p k m other) once at in
        subst (λ (k : ℕ). IsTypedWork p k other.types other.work) (sym once)
        (subst (λ (x : MetaMethod). IsTypedWork p c x.types x.work) (same_method c m method other is here) typed),
    λ h.
        let within : m < method_count p c = subst (λ (n : ℕ). m < n) (sym (ap methods_in is.is_class.is)) (slice_get_within is.class.methods m method is.is) in
        let declares : Declares p c m = record { after = after; within = within } in
        h declares c method (same is.is_class) declares is,
  )

  -- what the code tells of it
  pub no_method : (c m : ℕ) → ((x : MetaMethod) → ¬ IsMethod p c m x) → method_offset p c ≤ m → IsTypedMemberHere p c (Method m)
  no_method c m none after declares d other below declared at =
      let once : d ≡ c = declared_once c d m after below declared in
      absurd (none other (subst (λ (k : ℕ). IsMethod p k m other) once at))

  module _ (c m : ℕ) (method : MetaMethod) (body given : List Statement) (types : List ValueType) (is : IsMethod p c m method) (after : method_offset p c ≤ m) (slots : method.work ≡ Slot body) (at : given ≡ body) (same_value_types : types ≡ method.types) where
    pub body_typed : IsTypedBody p c types given → IsTypedMemberHere p c (Method m)
    body_typed typed =
        (method_here c m method is after).0
        (subst (λ (w : Work). IsTypedWork p c method.types w) (sym slots)
        (subst (λ (ks : List ValueType). IsTypedBody p c ks body) same_value_types (subst (λ (b : List Statement). IsTypedBody p c types b) at typed)))

    pub typed_body : IsTypedMemberHere p c (Method m) → IsTypedBody p c types given
    typed_body h =
        subst (λ (b : List Statement). IsTypedBody p c types b) (sym at)
        (subst (λ (ks : List ValueType). IsTypedBody p c ks body) (sym same_value_types) (subst (λ (w : Work). IsTypedWork p c method.types w) slots ((method_here c m method is after).1 h)))

-- what isn't a slot with a body is typed
pub no_body : (p : Loaded) (c : ℕ) (types : List ValueType) (work : Work) → ((body : List Statement) → ¬ (work ≡ Slot body)) → IsTypedWork p c types work
no_body p c types (Slot body) not = absurd (not body refl)
no_body p c types work not = tt

-- a typed node is typed by itself
pub member_here : (p : Loaded) (c : ℕ) (x : Member) → IsTypedMember p c x → IsTypedMemberHere p c x
member_here p c (Method m) typed = λ declares. typed
member_here p c (Property q) typed = typed
member_here p c Destruction typed = typed
