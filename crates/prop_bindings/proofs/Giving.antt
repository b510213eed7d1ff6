-- What writes give: their properties, each once, with the values that are written last.
use Rattle.std.{proofs.Common.{◌≡◌, ◌||◌, ℕ, Bool, true, false, cond, List, [], ◌∷◌, ◌++◌, inl, inr, Some, refl, ap, sym, ◌∙◌, subst}, specs.Option.{is_some}, specs.Map.{lookup}, proofs.Math.Path.{fun_ext}, proofs.lemmas.Bool.{cases_Bool}}
use Rattle.indexmap.specs.IndexMap.{IndexMap, get}
use Rattle.basic_types.specs.declared.value.Value.{Value}
use Rattle.meta_model.specs.Loaded.{Loaded}
use Rattle.object_tree.specs.{declared.object.Object.{Object}, Objects.{change_life, written}, Typed.{AreTyped}}
use Rattle.binding_graph.{specs.declared.place.Place.{Place}, specs.declared.binding.Binding.{Binding}, specs.Places.{In, is_in, same_place}, specs.code.Keys.{key_of, same_key}, specs.code.Orders.{update}, proofs.Places.{In-right, is_in-false, is_in-true, same_place-true}, proofs.Several.{is_in-of}}
use Rattle.prop_bindings.{specs.declared.plans.assignment.Assignment.{Assignment}, specs.Values.{values_in}, specs.Calls.{AllFit}, specs.Changes.{HaveLasting, once, one, places_in}, specs.Fits.{FitsAt}, specs.code.Parts.{AreGiven, GivesOnly, HaveAhead, IsSoundBySome, MayGiveSome, AreSound, ahead, wrote}, proofs.Assigned.{ahead-more, ahead-none}, proofs.Evaluating.{given-values}, proofs.Once.{given-once}, proofs.EachOnce.{in-once, once-again, once-in, once-new}, proofs.Wrote.{lasting-same, wrote-lasting, wrote-other, wrote-push, wrote-sound}}

module _ {S : Type 0} (values : IndexMap (ℕ × ℕ) Value S) where
  pub given-none : values.entries ≡ [] → AreGiven [] [] values
  given-none none = record {
    each = refl;
    keyed = λ q. ap (λ (es : List ((ℕ × ℕ) × Value)). is_some (lookup (same_key (key_of q)) es)) none;
    begun = λ objects. ahead-none values objects none;
  }

  -- all others keep their values
  pub given-only : (writes : List Assignment) (targets : List Place) → AreGiven writes targets values → (objects : List Object) → GivesOnly targets values objects
  given-only writes targets h objects q out =
      ap (λ (xs : List Object). values_in xs q) (h.begun objects)
      ∙ wrote-other writes objects q (λ i. out (subst (λ (ps : List Place). In q ps) (sym h.each) (in-once (places_in writes) q i)))

  pub sound-ahead : (p : Loaded) (objects : List Object) (bs : List Binding) (writes : List Assignment) (targets : List Place) → AreGiven writes targets values → AllFit p objects writes → AreSound p objects bs → AreSound p (ahead values objects) bs
  sound-ahead p objects bs writes targets h fits sound = subst (λ (xs : List Object). AreSound p xs bs) (sym (h.begun objects)) (wrote-sound p bs writes objects sound fits)

  pub given-sound : (objects : List Object) (bs : List Binding) (targets : List Place) → MayGiveSome objects bs targets values → IsSoundBySome (ahead values objects) bs
  given-sound objects bs targets s =
      let agree = s.2.agree in
      (s.0, sound-ahead s.0 objects bs s.1 targets s.2.given s.2.fits (agree.typed, agree.fit))

-- ---- one write more
push-places : (writes : List Assignment) (a : Assignment) → places_in (writes ++ a ∷ []) ≡ places_in writes ++ a.place ∷ []
push-places [] a = refl
push-places (b ∷ rest) a = ap (λ (ps : List Place). b.place ∷ ps) (push-places rest a)

is_in-push : (ps : List Place) (p q : Place) → same_place p q ≡ false → is_in (ps ++ p ∷ []) q ≡ is_in ps q
is_in-push [] p q apart = ap (λ (b : Bool). b || false) apart
is_in-push (x ∷ ps) p q apart = ap (λ (b : Bool). same_place x q || b) (is_in-push ps p q apart)

module _ {S : Type 0} (old new : IndexMap (ℕ × ℕ) Value S) (writes whole : List Assignment) (targets : List Place) (a : Assignment) (key : ℕ × ℕ)
    (is : whole ≡ writes ++ a ∷ []) (key-is : key ≡ key_of a.place) (h : AreGiven writes targets old)
    (given : (k : ℕ × ℕ) → get same_key new k ≡ cond (same_key key k) (Some a.value) (get same_key old k)) where
  found : (q : Place) → get same_key new (key_of q) ≡ cond (same_place a.place q) (Some a.value) (get same_key old (key_of q))
  found q = given (key_of q) ∙ ap (λ (k : ℕ × ℕ). cond (same_key k (key_of q)) (Some a.value) (get same_key old (key_of q))) key-is

  found-here : (q : Place) → same_place a.place q ≡ true → is_some (get same_key new (key_of q)) ≡ true
  found-here q t = ap is_some (found q) ∙ ap (λ (b : Bool). is_some (cond b (Some a.value) (get same_key old (key_of q)))) t

  found-other : (q : Place) → same_place a.place q ≡ false → is_some (get same_key new (key_of q)) ≡ is_in targets q
  found-other q f = ap is_some (found q) ∙ ap (λ (b : Bool). is_some (cond b (Some a.value) (get same_key old (key_of q)))) f ∙ h.keyed q

  more-values : (objects : List Object) → ahead new objects ≡ wrote (writes ++ a ∷ []) objects
  more-values objects =
      ahead-more old new objects a.place a.value key key-is given
      ∙ ap (change_life a.place.object (written a.place.property a.value)) (h.begun objects)
      ∙ sym (wrote-push writes a objects)

  -- its property isn't written yet
  pub given-new : is_some (get same_key old (key_of a.place)) ≡ false → AreGiven whole (targets ++ a.place ∷ []) new
  given-new none =
      let out : In a.place (places_in writes) → ⊥ = λ i. is_in-false targets a.place (sym (h.keyed a.place) ∙ none) (subst (λ (ps : List Place). In a.place ps) (sym h.each) (in-once (places_in writes) a.place i)) in
      subst (λ (xs : List Assignment). AreGiven xs (targets ++ a.place ∷ []) new) (sym is) (record {
        each = ap (λ (ps : List Place). ps ++ a.place ∷ []) h.each ∙ sym (once-new (places_in writes) a.place out) ∙ sym (ap once (push-places writes a));
        keyed = λ q. elim (cases_Bool (same_place a.place q)) [
          | inl t ↦ found-here q t ∙ sym (is_in-of (targets ++ a.place ∷ []) q (In-right q targets (a.place ∷ []) (inl (same_place-true a.place q t))))
          | inr f ↦ found-other q f ∙ sym (is_in-push targets a.place q f)
        ];
        begun = more-values;
      })

  -- .. or is already
  pub given-again : is_some (get same_key old (key_of a.place)) ≡ true → AreGiven whole targets new
  given-again some =
      let there : is_in targets a.place ≡ true = sym (h.keyed a.place) ∙ some in
      let inside : In a.place (places_in writes) = once-in (places_in writes) a.place (subst (λ (ps : List Place). In a.place ps) h.each (is_in-true targets a.place there)) in
      subst (λ (xs : List Assignment). AreGiven xs targets new) (sym is) (record {
        each = h.each ∙ sym (once-again (places_in writes) a.place inside) ∙ sym (ap once (push-places writes a));
        keyed = λ q. elim (cases_Bool (same_place a.place q)) [
          | inl t ↦ found-here q t ∙ sym (subst (λ (r : Place). is_in targets r ≡ true) (same_place-true a.place q t) there)
          | inr f ↦ found-other q f
        ];
        begun = more-values;
      })

-- the only one
pub given-one : {S : Type 0} (old new : IndexMap (ℕ × ℕ) Value S) (at : Place) (v : Value) (key : ℕ × ℕ) → key ≡ key_of at → old.entries ≡ [] → ((k : ℕ × ℕ) → get same_key new k ≡ cond (same_key key k) (Some v) (get same_key old k)) → AreGiven (one at v) (at ∷ []) new
given-one old new at v key is none given =
    let a : Assignment = record { place = at; value = v } in
    given-new old new [] (a ∷ []) [] a key refl is (given-none old none) given (ap (λ (es : List ((ℕ × ℕ) × Value)). is_some (lookup (same_key (key_of at)) es)) none)

-- ---- whether each property has the value already that it is to have
module _ {S : Type 0} (p : Loaded) (objects : List Object) (writes : List Assignment) (targets : List Place) (values : IndexMap (ℕ × ℕ) Value S)
    (typed : AreTyped p objects) (fits : AllFit p objects writes) (h : AreGiven writes targets values) where
  lasting-ahead : HaveLasting (ahead values objects) writes
  lasting-ahead = subst (λ (xs : List Object). HaveLasting xs writes) (sym (h.begun objects)) (wrote-lasting p writes objects typed fits)

  pub have-now : HaveAhead values objects targets → HaveLasting objects writes
  have-now same = lasting-same (ahead values objects) objects writes
      (λ q i. sym (same q (subst (λ (ps : List Place). In q ps) (sym h.each) (in-once (places_in writes) q i)))) lasting-ahead

  pub have-ahead : HaveLasting objects writes → HaveAhead values objects targets
  have-ahead have q i = given-once (values_in objects) (values_in (ahead values objects)) writes have lasting-ahead q
      (once-in (places_in writes) q (subst (λ (ps : List Place). In q ps) h.each i))

-- ---- of one property
pub given-update : {S : Type 0} (p : Loaded) (objects : List Object) (at : Place) (v : Value) (values : IndexMap (ℕ × ℕ) Value S) → AreTyped p objects → FitsAt p objects at v → AreGiven (one at v) (at ∷ []) values → values_in (ahead values objects) ≡ update (values_in objects) at (Some v)
given-update p objects at v values typed fits h = fun_ext (λ q. ap (λ (xs : List Object). values_in xs q) (h.begun objects) ∙ given-values p objects at v typed fits q)
