-- Members that are there are nodes.
use Rattle.std.proofs.Common.{◌≡◌, ◌≢◌, inl, inr, ℕ, zero, suc, ◌+◌, ◌-◌, ◌<◌, List, [], ◌∷◌, ◌++◌, length, map, take, slice_get, Some, refl, sym, ap, ◌∙◌, subst, arith}
use Rattle.std.specs.Option.{option_map}
use Rattle.std.proofs.lemmas.Bool.{cases_eq}
use Rattle.std.proofs.lemmas.Option.{slice_get_within, slice_get-map, same_Some, none-some}
use Rattle.meta_model.specs.declared.object.MetaMethod.{MetaMethod}
use Rattle.meta_model.specs.declared.object.MetaObject.{MetaObject}
use Rattle.meta_model.specs.declared.object.MetaProperty.{MetaProperty}
use Rattle.meta_model.specs.declared.object.Work.TheVariants.{Signal}
use Rattle.meta_model.specs.declared.qobject.TheConstants.{DESTROYED, DESTROYED_ALONE, OBJECT_NAME_CHANGED}
use Rattle.meta_model.specs.Loaded.{Loaded}
use Rattle.meta_model.specs.Members.{IsClass, IsMethod, IsProperty, IsIn}
use Rattle.meta_model.specs.Root.{root_methods}
use Rattle.meta_model.specs.Sound.{IsSound}
use Rattle.effect_scan.specs.declared.node.Member.{Member}
use Rattle.effect_scan.specs.declared.node.Member.TheVariants as member
use Rattle.effect_scan.specs.Nodes.{node, named, shape_of, class_nodes, nodes_from}
use Rattle.effect_scan.specs.Numbering.{IsPlaceIn}
use Rattle.effect_scan.specs.Laws.{IsNode}
use Rattle.effect_scan.proofs.Numbered.{stands, stands_after, place_low}
use Rattle.effect_scan.proofs.Standing.{named_cases}

-- what is found is in the list
pub found-in : {X : Type 0} (xs : List X) (k : ℕ) (x : X) → slice_get xs k ≡ Some x → IsIn x xs
found-in [] k x e = absurd (none-some x e)
found-in (y ∷ ys) zero x e = inl (sym (same_Some y x e))
found-in (y ∷ ys) (suc k) x e = inr (found-in ys k x e)

module _ {p : Loaded} (sound : IsSound p) where
  placed : (c : ℕ) (class : MetaObject) → IsClass p c class → (x : Member) (k : ℕ) → IsPlaceIn (shape_of class) x k → IsNode p (node c x)
  placed c class is x k at =
      let shapes = map shape_of p.classes in
      let here_is : slice_get shapes c ≡ Some (shape_of class) = slice_get-map shape_of p.classes c ∙ ap (option_map shape_of) is.is in
      let low = place_low (0 + c) (shape_of class) x k at in
      let number : 0 + c ≡ c = omega arith in (
        length (nodes_from 0 (take c shapes)) + k,
        stands_after 0 shapes c (shape_of class) k here_is low ∙ ap (λ (n : ℕ). slice_get (class_nodes n (shape_of class)) k) number ∙ stands c (shape_of class) x k at,
      )

  method-node : (c m : ℕ) (method : MetaMethod) → IsMethod p c m method → m ≢ DESTROYED_ALONE → IsNode p (node c (member.Method m))
  method-node c m method is ne =
      let within = slice_get_within is.class.methods m method is.is in
      elim (cases_eq m DESTROYED) [
        | inl e ↦ placed c is.class is.is_class (member.Method m) 0 (inl (e, refl))
        | inr other ↦ placed c is.class is.is_class (member.Method m) (m - 1) (inr (omega (arith, ne, other), within, omega (arith, ne, other)))
      ]

  pub property-node : (c q : ℕ) (property : MetaProperty) → IsProperty p c q property → IsNode p (node c (member.Property q))
  property-node c q property is = placed c is.class is.is_class (member.Property q) _ (slice_get_within is.class.properties q property is.is, refl)

  pub end-node : (c : ℕ) (class : MetaObject) → IsClass p c class → IsNode p (node c member.Destruction)
  end-node c class is = placed c class is member.Destruction _ refl

  destroyed-node : (c : ℕ) (class : MetaObject) → IsClass p c class → IsNode p (node c (member.Method DESTROYED))
  destroyed-node c class is =
      let begins = (sound.classes c class is).begins in
      method-node c DESTROYED _ (record { class = class; is_class = is; is = ap (λ ms. slice_get ms DESTROYED) begins.methods }) (λ e. omega (arith, e))

  -- a method by the number that its spelling names
  pub named-node : (c m : ℕ) (method : MetaMethod) → IsMethod p c m method → IsNode p (node c (member.Method (named m)))
  named-node c m method is =
      elim (named_cases m) [
        | inl one ↦ subst (λ (n : ℕ). IsNode p (node c (member.Method n))) (sym one.1) (destroyed-node c is.class is.is_class)
        | inr other ↦ subst (λ (n : ℕ). IsNode p (node c (member.Method n))) (sym other.1) (method-node c m method is other.0)
      ]

  -- `destroyed()` is a signal
  pub alone-signal : (c : ℕ) (method : MetaMethod) → IsMethod p c DESTROYED_ALONE method → method.work ≡ Signal
  alone-signal c method is =
      let begins = (sound.classes c is.class is.is_class).begins in
      of_root begins.own_methods (ap (λ ms. slice_get ms DESTROYED_ALONE) (sym begins.methods) ∙ is.is)
    where
      of_root : (own : List MetaMethod) → slice_get (root_methods ++ own) DESTROYED_ALONE ≡ Some method → method.work ≡ Signal
      of_root own e = ap (λ (k : MetaMethod). k.work) (sym (same_Some _ _ e))

  -- .. so what has a body is named as it is spelled
  pub body-named : (c m : ℕ) (method : MetaMethod) → IsMethod p c m method → method.work ≢ Signal → named m ≡ m
  body-named c m method is bodied =
      elim (named_cases m) [
        | inl one ↦ absurd (bodied (alone-signal c method (subst (λ (n : ℕ). IsMethod p c n method) one.0 is)))
        | inr other ↦ other.1
      ]

-- and so is what comes after the signals that the runtime emits
pub late-named : (m : ℕ) → OBJECT_NAME_CHANGED < m → named m ≡ m
late-named m late =
    elim (named_cases m) [
      | inl one ↦ absurd (let e = one.0 in omega (arith, late, e))
      | inr other ↦ other.1
    ]

-- what a spelling names, names itself
pub named-again : (m : ℕ) → named (named m) ≡ named m
named-again m =
    elim (named_cases m) [
      | inl one ↦ ap named one.1 ∙ sym one.1
      | inr other ↦ ap named other.1
    ]
