-- A write of a property on which nothing depends.
use Rattle.std.{proofs.Common.{◌≡◌, ℕ, Bool, List, [], ◌∷◌, cond, inl, inr, Option, Some, refl, ap, sym, ◌∙◌, subst}, specs.Option.{option_map}}
use Rattle.basic_types.specs.declared.value.Value.{Value}
use Rattle.meta_model.specs.Loaded.{Loaded}
use Rattle.object_tree.specs.{declared.object.Object.{Object}, Objects.{change_life, written}, Seen.{seen}}
use Rattle.binding_graph.{specs.declared.place.Place.{Place}, specs.declared.binding.Binding.{Binding}, specs.Bindings.{Reads, binding_at, without, without_all}, specs.code.Graph.{Unread}, specs.code.Orders.{IsAffected}, proofs.Places.{same_place-refl}, proofs.Replaced.{without-fewer}}
use Rattle.prop_bindings.{specs.Values.{values_in}, specs.Changes.{AreChanged, DifferInValues, IsWritten, none_changed, one, one_changed, one_stayed}, specs.Counts.{CountsWritten}, specs.Fits.{Agree, FitsAt}, specs.code.Parts.{LeadTo}, proofs.Calling.{lead-to}, proofs.Changed.{changed-once}, proofs.Evaluating.{given-sound, rest-alike}, proofs.InOrder.{lifted-changes}, proofs.Staying.{alike-by, alike-from}, proofs.Values.{value-changed, written-differs}, proofs.Wrote.{wrote-other}}

module _ (objects : List Object) (at : Place) (v : Value) where
  abbrev new : List Object
  new = change_life at.object (written at.property v) objects

  differ : DifferInValues objects new
  differ = written-differs at.object at.property v objects

  there : option_map (λ (own : Value). v) (values_in objects at) ≡ values_in new at
  there = sym (value-changed objects at v at ∙ ap (λ (b : Bool). option_map (λ (own : Value). cond b v own) (values_in objects at)) (same_place-refl at))

  -- whether it reads as it did
  pub alone-stayed : option_map (seen objects) (option_map (λ (own : Value). v) (values_in objects at)) ≡ option_map (seen objects) (values_in objects at) → AreChanged objects new (at ∷ []) []
  alone-stayed same = one_stayed (alike-by objects new differ at _ there same) none_changed

  pub alone-changed : (¬ (option_map (seen objects) (option_map (λ (own : Value). v) (values_in objects at)) ≡ option_map (seen objects) (values_in objects at))) → AreChanged objects new (at ∷ []) (at ∷ [])
  alone-changed apart = one_changed (λ alike. apart (alike-from objects new differ at _ there alike)) none_changed

  module _ (p : Loaded) (bs : List Binding) (agree : Agree p objects bs) (fits : FitsAt p objects at v) (unread : Unread (binding_at bs) at) where
    affected : IsAffected (binding_at (without_all (at ∷ []) bs)) (at ∷ []) []
    affected = record {
      ordered = tt;
      distinct = tt;
      reached = λ q i. absurd i;
      closed = λ q m b some reads i. elim i [
        | inl j ↦ elim j [
          | inl e ↦ unread q b (without-fewer at bs q b some) (subst (λ (r : Place). Reads b r) (sym e) reads)
          | inr k ↦ k
        ]
        | inr k ↦ k
      ];
    }

    module _ (changed : List Place) (changes : AreChanged objects new (at ∷ []) changed) where
      alone-leads : LeadTo p objects bs (one at v) new changed 0
      alone-leads =
          let all = lifted-changes objects new (at ∷ []) bs [] [] changed ((λ i. i), tt) agree.apart tt tt (λ q. ((λ i. i), (λ i. i))) (λ q i j. j)
          (rest-alike objects new new bs (at ∷ []) [] (wrote-other (one at v) objects) (λ q. refl) differ) changes in
          lead-to p bs objects new new (one at v) (at ∷ []) [] agree (fits, tt) refl refl affected (λ q. refl)
          changed 0 differ all (given-sound p objects bs at v (agree.typed, agree.fit) fits) refl

      -- a value that it has already
      same-seen : values_in objects at ≡ Some v → option_map (seen objects) (option_map (λ (own : Value). v) (values_in objects at)) ≡ option_map (seen objects) (values_in objects at)
      same-seen has =
          ap (λ (o : Option Value). option_map (seen objects) (option_map (λ (own : Value). v) o)) has
          ∙ sym (ap (option_map (seen objects)) has)

      -- what bindings and objects are once it is written
      module _ (cs : List Binding) (xs : List Object) (left : cs ≡ without at bs) (objects_are : xs ≡ new) where
        pub alone-written : IsWritten bs cs objects xs (one at v) changed
        alone-written =
            subst (λ (ys : List Object). IsWritten bs cs objects ys (one at v) changed) (sym objects_are)
            (subst (λ (ds : List Binding). IsWritten bs ds objects new (one at v) changed) (sym left) alone-leads.written)

        pub alone-agrees : Agree p xs cs
        alone-agrees =
            subst (λ (ys : List Object). Agree p ys cs) (sym objects_are)
            (subst (λ (ds : List Binding). Agree p new ds) (sym left) alone-leads.agree)

        pub alone-counted : (n : ℕ) → n ≡ 0 → CountsWritten (binding_at cs) at v objects changed n
        alone-counted n none =
            subst (λ (k : ℕ). CountsWritten (binding_at cs) at v objects changed k) (sym none)
            (subst (λ (ds : List Binding). CountsWritten (binding_at ds) at v objects changed 0) (sym left)
            ((λ have. (changed-once objects new (at ∷ []) changed [] changes (alone-stayed (same-seen have.0)), refl)), (λ out. alone-leads.counted)))
