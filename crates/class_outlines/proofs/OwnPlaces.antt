-- The second of two members of a class that are one is declared by the class itself, where each of its base's appears
-- once.
use Rattle.std.{proofs.Common.{◌≡◌, ℕ, zero, suc, ◌+◌, ◌-◌, ◌<◌, ◌≤◌, List, [], ◌∷◌, ◌++◌, map, length, take, slice_get, Some, inl, inr, refl, sym, ap, ◌∙◌, subst, arith, length-append}, specs.Option.{option_and_then}, proofs.lemmas.List.{take_all, take-append-le}, proofs.lemmas.Option.{none-some, same_Some, slice_get_within}}
use Rattle.syntax_trees.specs.{declared.program.Property.{Property}, declared.program.Signal.{Signal}, declared.program.Slot.{Slot}, declared.program.Class.{Class}, declared.program.Program.{Program}}
use Rattle.name_indexes.{specs.declared.twins.Twins.{Twins}, specs.Twice.{StandsTwice}, specs.code.Twins.{AreTwins}, proofs.Indexing.{twice_at}, proofs.Once.{get_split_at}, proofs.Prefixes.{take_get}, proofs.Zips.{any_of}}
use Rattle.class_outlines.{specs.declared.outline.Heading.{Heading}, specs.declared.outline.Outline.{Outline}, specs.declared.offence.Member.{Member}, specs.Clashes.{AreOneCall, HasTwoMembers}, specs.Offences.{IsMember, IsDeclared}, specs.Outlines.{signal_heading, slot_headings, own_methods, qobject}, specs.code.OwnMembers.{IsNext, IsOverBase, AreOneProperty, methods_of, properties_of, base_methods, base_properties, methods_above, properties_above}, proofs.Outlined.{Declared, outline_of}}
use Rattle.class_outlines.specs.declared.offence.Member.TheVariants as member
use Rattle.class_outlines.specs.declared.offence.Declaration.TheVariants as declaration

-- ---- two that are alike appear twice
pub twins_twice : {X : Type 0} (alike : X → X → Type 0) (xs : List X) (t : Twins) → AreTwins alike xs t → StandsTwice alike xs
twins_twice alike xs t are = twice_at alike xs t.first t.again are.x are.y are.is_x are.is_y are.before are.are

-- ---- `QObject`
-- the third letter of a name
abbrev third : List ℕ → ℕ
third [] = 0
third (a ∷ []) = 0
third (a ∷ b ∷ []) = 0
third (a ∷ b ∷ c ∷ rest) = c

abbrev letter : Heading → ℕ
letter h = third h.sig.name

abbrev count : Heading → ℕ
count h = length h.sig.types

-- two places of `QObject`'s methods differ in one of the two
differ : (i j : ℕ) (x y : Heading) → slice_get qobject.methods i ≡ Some x → slice_get qobject.methods j ≡ Some y → i < j → AreOneCall x y → ⊥
differ (suc (suc (suc (suc i)))) j x y ex ey less are = none-some x ex
differ i (suc (suc (suc (suc j)))) x y ex ey less are = none-some y ey
differ zero zero x y ex ey less are = absurd (omega (arith, less))
differ zero (suc zero) x y ex ey less are =
    let e = ap count (same_Some _ _ ex) in
    let f = ap count (same_Some _ _ ey) in
    let same : 1 ≡ 0 = e ∙ are.1 ∙ sym f in
    absurd (omega (arith, same))
differ zero (suc (suc zero)) x y ex ey less are =
    let e = ap letter (same_Some _ _ ex) in
    let f = ap letter (same_Some _ _ ey) in
    let same : 115 ≡ 106 = e ∙ ap third are.0 ∙ sym f in
    absurd (omega (arith, same))
differ zero (suc (suc (suc zero))) x y ex ey less are =
    let e = ap count (same_Some _ _ ex) in
    let f = ap count (same_Some _ _ ey) in
    let same : 1 ≡ 0 = e ∙ are.1 ∙ sym f in
    absurd (omega (arith, same))
differ (suc zero) zero x y ex ey less are = absurd (omega (arith, less))
differ (suc zero) (suc zero) x y ex ey less are = absurd (omega (arith, less))
differ (suc zero) (suc (suc zero)) x y ex ey less are =
    let e = ap count (same_Some _ _ ex) in
    let f = ap count (same_Some _ _ ey) in
    let same : 0 ≡ 1 = e ∙ are.1 ∙ sym f in
    absurd (omega (arith, same))
differ (suc zero) (suc (suc (suc zero))) x y ex ey less are =
    let e = ap letter (same_Some _ _ ex) in
    let f = ap letter (same_Some _ _ ey) in
    let same : 115 ≡ 108 = e ∙ ap third are.0 ∙ sym f in
    absurd (omega (arith, same))
differ (suc (suc zero)) zero x y ex ey less are = absurd (omega (arith, less))
differ (suc (suc zero)) (suc zero) x y ex ey less are = absurd (omega (arith, less))
differ (suc (suc zero)) (suc (suc zero)) x y ex ey less are = absurd (omega (arith, less))
differ (suc (suc zero)) (suc (suc (suc zero))) x y ex ey less are =
    let e = ap count (same_Some _ _ ex) in
    let f = ap count (same_Some _ _ ey) in
    let same : 1 ≡ 0 = e ∙ are.1 ∙ sym f in
    absurd (omega (arith, same))
differ (suc (suc (suc zero))) zero x y ex ey less are = absurd (omega (arith, less))
differ (suc (suc (suc zero))) (suc zero) x y ex ey less are = absurd (omega (arith, less))
differ (suc (suc (suc zero))) (suc (suc zero)) x y ex ey less are = absurd (omega (arith, less))
differ (suc (suc (suc zero))) (suc (suc (suc zero))) x y ex ey less are = absurd (omega (arith, less))

-- ---- the members of a class behind its base's
signals_counted : (signals : List Signal) → length (map signal_heading signals) ≡ length signals
signals_counted [] = refl
signals_counted (s ∷ signals) = ap suc (signals_counted signals)

slots_counted : (i j : ℕ) (slots : List Slot) → length (slot_headings i j slots) ≡ length slots
slots_counted i j [] = refl
slots_counted i j (s ∷ slots) = ap suc (slots_counted i (suc j) slots)

-- the second of two that are alike, of which the first list has no two
second_own : {X : Type 0} (alike : X → X → Type 0) (xs ys : List X) (t : Twins) → AreTwins alike (xs ++ ys) t → ¬ StandsTwice alike xs → (length xs ≤ t.again) × (t.again - length xs < length ys)
second_own alike xs ys t are once =
    elim (get_split_at xs ys t.again are.y are.is_y) [
      | inl e ↦
          let within = slice_get_within xs t.again are.y e in
          elim (get_split_at xs ys t.first are.x are.is_x) [
            | inl f ↦ absurd (once (twice_at alike xs t.first t.again are.x are.y f e are.before are.are))
            | inr r ↦ absurd (omega (arith, within, r.1, are.before))
          ]
      | inr r ↦ let within = slice_get_within ys r.0 are.y r.2 in (omega (arith, r.1), omega (arith, r.1, within))
    ]

front : {X : Type 0} (xs ys : List X) → take (length xs) (xs ++ ys) ≡ xs
front xs ys = take-append-le (length xs) xs ys (omega arith) ∙ take_all (length xs) xs (omega arith)

module _ (program : Program) (done : List Outline) (o : Outline) (next : IsNext program done o) where
  -- the base is one of those that are done
  base_at : (d : Declared program.classes next.all (length done) o) → slice_get done d.base_number ≡ Some d.base
  base_at d =
      subst (λ (os : List Outline). slice_get os d.base_number ≡ Some d.base) next.are
      (take_get (length done) next.all d.base_number d.base d.is_base d.smaller)

  base_once : (d : Declared program.classes next.all (length done) o) → ¬ HasTwoMembers d.base
  base_once d two = next.once (any_of HasTwoMembers done d.base_number (record { item = d.base; is = base_at d; has = two }))

  based : (d : Declared program.classes next.all (length done) o) → option_and_then (slice_get done) o.base ≡ Some d.base
  based d = ap (option_and_then (slice_get done)) (ap (λ (u : Outline). u.base) d.shape) ∙ base_at d

  pub method_declared : (t : Twins) → AreTwins AreOneCall o.methods t → (n k : ℕ) → n ≡ length done - 1 → k ≡ t.again - methods_above done o.base → (m : Member)
      → ((class : Class) → slice_get program.classes n ≡ Some class → k < length class.signals + length class.slots → IsMember class m) → IsDeclared program (declaration.Member n m)
  method_declared t are n k en ek m is =
      elim (outline_of program.classes next.all next.outlined (length done) o next.is) [
        | inl z ↦
            let twins = subst (λ (u : Outline). AreTwins AreOneCall u.methods t) z.1 are in
            absurd (differ t.first t.again twins.x twins.y twins.is_x twins.is_y twins.before twins.are)
        | inr d ↦
            let twins = subst (λ (ms : List Heading). AreTwins AreOneCall ms t) (ap (λ (u : Outline). u.methods) d.shape) are in
            let own = second_own AreOneCall d.base.methods (own_methods d.i d.class) t twins (λ two. base_once d (inl two)) in
            let above : methods_above done o.base ≡ length d.base.methods = ap length (ap methods_of (based d)) in
            let signals = signals_counted d.class.signals in
            let slots = slots_counted d.i 0 d.class.slots in
            let total = length-append (map signal_heading d.class.signals) (slot_headings d.i 0 d.class.slots) in
            let number : d.i ≡ n = omega (arith, d.number, en) in
            let at : slice_get program.classes n ≡ Some d.class = subst (λ (x : ℕ). slice_get program.classes x ≡ Some d.class) number d.is in
            record { item = d.class; is = at; has = is d.class at (omega (arith, ek, above, own.1, total, signals, slots)) }
      ]

  pub property_declared : (t : Twins) → AreTwins AreOneProperty o.properties t → (n k : ℕ) → n ≡ length done - 1 → k ≡ t.again - properties_above done o.base
      → IsDeclared program (declaration.Member n (member.Property k))
  property_declared t are n k en ek =
      elim (outline_of program.classes next.all next.outlined (length done) o next.is) [
        | inl z ↦
            let twins = subst (λ (u : Outline). AreTwins AreOneProperty u.properties t) z.1 are in
            let low = slice_get_within qobject.properties t.again twins.y twins.is_y in
            absurd (omega (arith, low, twins.before))
        | inr d ↦
            let twins = subst (λ (ps : List Property). AreTwins AreOneProperty ps t) (ap (λ (u : Outline). u.properties) d.shape) are in
            let own = second_own AreOneProperty d.base.properties d.class.properties t twins (λ two. base_once d (inr two)) in
            let above : properties_above done o.base ≡ length d.base.properties = ap length (ap properties_of (based d)) in
            let number : d.i ≡ n = omega (arith, d.number, en) in
            record { item = d.class; is = subst (λ (x : ℕ). slice_get program.classes x ≡ Some d.class) number d.is; has = omega (arith, ek, above, own.1) }
      ]

  -- its base's members come first, and each of them appears once
  pub over_base : IsOverBase done o
  over_base =
      elim (outline_of program.classes next.all next.outlined (length done) o next.is) [
        | inl z ↦
            subst (λ (u : Outline). IsOverBase done u) (sym z.1)
            (record { methods = refl; properties = refl; methods_once = λ two. two; properties_once = λ two. two })
        | inr d ↦
            let methods : base_methods done o.base ≡ d.base.methods = ap methods_of (based d) in
            let properties : base_properties done o.base ≡ d.base.properties = ap properties_of (based d) in
            record {
              methods =
                  ap (λ (ms : List Heading). take (length ms) o.methods) methods
                  ∙ ap (λ (u : Outline). take (length d.base.methods) u.methods) d.shape
                  ∙ front d.base.methods (own_methods d.i d.class)
                  ∙ sym methods;
              properties =
                  ap (λ (ps : List Property). take (length ps) o.properties) properties
                  ∙ ap (λ (u : Outline). take (length d.base.properties) u.properties) d.shape
                  ∙ front d.base.properties d.class.properties
                  ∙ sym properties;
              methods_once = λ two. base_once d (inl (subst (λ (ms : List Heading). StandsTwice AreOneCall ms) methods two));
              properties_once = λ two. base_once d (inr (subst (λ (ps : List Property). StandsTwice AreOneProperty ps) properties two));
            }
      ]
