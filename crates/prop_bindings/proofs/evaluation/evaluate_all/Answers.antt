use Rattle.std.{proofs.Common.{◌≡◌, ◌∙◌, ◌∷◌, ◌++◌, [], None, Some, List, Option, map, ap, refl, sym, subst, arith}, specs.List.{All}, proofs.lemmas.List.Elements.{All-nil, All-push}}
use Rattle.basic_types.specs.declared.value.Value.{Value}
use Rattle.object_tree.specs.{declared.object.Object.{Object}, Objects.{change_life, written}}
use Rattle.binding_graph.{specs.declared.binding.Binding.{Binding}, specs.declared.numbering.Numbered.{Numbered}, specs.declared.place.Place.{Place}, specs.Bindings.{binding_at, value_of}, specs.code.Graph.{bindings_in, slot_of}, specs.code.Numbering.{AreNumbered, places_of}, proofs.Passes.{pass-step}, proofs.Ranked.{in-at, next-is, next-taken, taken-places}, proofs.Sorting.{places-push}}
use Rattle.prop_bindings.{specs.Values.{values_in}, specs.Changes.{valueless}, specs.code.Parts.{StaySound, ahead, value_ahead}, proofs.Assigned.{ahead-env, ahead-more}, proofs.Evaluating.{evaluated-there, evaluated-values, evaluated-sound}, proofs.Values.{written-differs}}
use Rattle.prop_bindings.proofs.evaluation.evaluate_all.Goals as goal

pub unreachable-requires : goal.unreachable-requires
unreachable-requires c =
    let bound = c.requires.bound c.place-item.result (in-at c.args.order.now c.loop-place.place-index c.place-item.result c.loop-place-test.true c.place-item.is) in
    let none : binding_at (bindings_in c.args.installed.now) c.place-item.result ≡ None = sym c.in_default.ensures.reader in
    let some : binding_at (bindings_in c.args.installed.now) c.place-item.result ≡ Some bound.0 = bound.1 in
    cc (none, some)

pub value_of-requires : goal.value_of-requires
value_of-requires c = omega (arith, c.requires.few, c.loop-place.invariant.counted, c.loop-place-test.true)

pub unreachable-requires-in-Err-BadType : goal.unreachable-requires-in-Err-BadType
unreachable-requires-in-Err-BadType c = evaluated-there (ahead c.loop-place.values c.args.tree.now) (bindings_in c.args.installed.now) c.place-item.result c.in-Some.reader.now (sym c.in-Some.ensures.reader) c.loop-place.invariant.by
    (subst (λ (e : Place → Option Value). value_of c.in-Some.reader.now e ≡ None) (ahead-env c.loop-place.values c.args.tree.now)
    (subst (λ (z : Binding). value_of z (value_ahead c.loop-place.values c.args.tree.now) ≡ None) c.binding.ensures (rw c.in-Err-BadType.field-0-is at c.in-Err-BadType.ensures.value)))

pub loop-place-init : goal.loop-place-init
loop-place-init c =
    let P : Numbered → Type 0 = λ g. slot_of c.args.installed.now g.place ≡ Some g.number in
    record {
      passed = λ q. refl;
      objects = refl;
      counted = omega arith;
      by = c.requires.sound;
      sound = λ p sound. sound;
      numbered = record {
        are = ap (λ (fs : List Numbered). places_of fs) c.in_ok-found.ensures.items;
        by = subst (λ (fs : List Numbered). All P fs) (sym c.in_ok-found.ensures.items) (All-nil P);
      };
    }

pub loop-place-preserved : goal.loop-place-preserved
loop-place-preserved c =
    let at : Place = c.place-item.result in
    let b : Binding = c.in-Some.reader.now in
    let bs : List Binding = bindings_in c.args.installed.now in
    let old : List Object = ahead c.loop-place.values c.args.tree.now in
    let more : ahead c.insert.new.self c.args.tree.now ≡ change_life at.object (written at.property c.in-Ok.value) old = ahead-more c.loop-place.values c.insert.new.self c.args.tree.now at c.in-Ok.value c.key.result c.key.ensures c.in_ok-insert.ensures.updates.0 in
    let has : value_of b (values_in old) ≡ Some c.in-Ok.value = subst (λ (e : Place → Option Value). value_of b e ≡ Some c.in-Ok.value) (ahead-env c.loop-place.values c.args.tree.now) (subst (λ (z : Binding). value_of z (value_ahead c.loop-place.values c.args.tree.now) ≡ Some c.in-Ok.value) c.binding.ensures c.in-Ok.ensures.value) in
    let stay : StaySound old (ahead c.insert.new.self c.args.tree.now) bs = subst (λ (xs : List Object). StaySound old xs bs) (sym more) (evaluated-sound old bs at b (sym c.in-Some.ensures.reader) c.in-Ok.value has) in
    let f : Numbered = record { number = c.in-Some.number; place = at } in
    let P : Numbered → Type 0 = λ g. slot_of c.args.installed.now g.place ≡ Some g.number in
    let cut = next-taken c.args.order.now c.loop-place.place-index at c.loop-place-test.true c.place-item.is in
    record {
      passed = λ q. pass-step (binding_at bs) at _ _ _ _ (next-is c.args.order.now c.loop-place.place-index at c.loop-place-test.true c.place-item.is)
          (λ r. ap (λ (xs : List Object). values_in xs r) more ∙ evaluated-values old bs at b (sym c.in-Some.ensures.reader) c.in-Ok.value has c.loop-place.invariant.by r) q ∙ c.loop-place.invariant.passed q;
      objects = ap (λ (xs : List Object). map valueless xs) more ∙ written-differs at.object at.property c.in-Ok.value old ∙ c.loop-place.invariant.objects;
      numbered = record {
        are = ap (λ (fs : List Numbered). places_of fs) c.in_ok-push.ensures.items ∙ places-push c.loop-place.found.items f ∙ ap (λ (ps : List Place). ps ++ at ∷ []) c.loop-place.invariant.numbered.are ∙ sym cut;
        by = subst (λ (fs : List Numbered). All P fs) (sym c.in_ok-push.ensures.items) (All-push P c.loop-place.found.items f c.loop-place.invariant.numbered.by (sym c.in-Some.ensures.slot));
      };
      counted = omega (arith, c.value_of.ensures.counted, c.loop-place.invariant.counted);
      by = (c.loop-place.invariant.by.0, stay c.loop-place.invariant.by.0 c.loop-place.invariant.by.1);
      sound = λ p sound. stay p (c.loop-place.invariant.sound p sound);
    }

pub returns-clause-numbered : goal.returns-clause-numbered
returns-clause-numbered c =
    subst (λ (ps : List Place). AreNumbered (slot_of c.args.installed.now) ps c.loop-place.found.items)
    (taken-places c.args.order.now c.loop-place.place-index c.loop-place-test.false) c.loop-place.invariant.numbered
