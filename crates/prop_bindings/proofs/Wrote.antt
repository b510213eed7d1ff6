-- Objects after writes in turn, from which nothing followed.
use Rattle.std.{proofs.Common.{◌≡◌, ℕ, Bool, cond, List, [], ◌∷◌, ◌++◌, inl, inr, Option, None, Some, refl, ap, sym, ◌∙◌, subst}, specs.List.{AllByRecursion}, specs.Option.{option_map}, proofs.lemmas.Bool.{cases_Bool}, proofs.lemmas.Option.{same_Some}}
use Rattle.basic_types.specs.declared.value.Value.{Value}
use Rattle.meta_model.specs.{Loaded.{Loaded}, Members.{IsProperty}}
use Rattle.object_tree.{specs.declared.life.Life.{Life}, specs.declared.object.Object.{Object}, specs.Objects.{change_life, class_of, life_of, written}, specs.Typed.{AreTyped}, proofs.Changing.{life-of-lives}, proofs.TypedObjects.{Follow, reads-still, typed-written}}
use Rattle.binding_graph.{specs.declared.place.Place.{Place}, specs.declared.binding.Binding.{Binding}, specs.Places.{In, is_in}, proofs.Places.{different, is_in-false}}
use Rattle.prop_bindings.{specs.declared.plans.assignment.Assignment.{Assignment}, specs.Values.{values_in}, specs.Calls.{AllFit}, specs.Changes.{DifferInValues, HaveLasting, lasting, places_in}, specs.Fits.{FitsAt}, specs.code.Parts.{AreSound, wrote}, proofs.Evaluating.{given-sound}, proofs.Alive.{lives-alike, lives-on, seen-number}, proofs.There.{has-value}, proofs.Values.{value-kept, value-written, written-differs}}

-- ---- a value that fits does so where nothing but values differs
abbrev emptied : Life → Life
emptied l = record l { values = [] }

class-in : (a b : Option Life) → option_map emptied b ≡ option_map emptied a → option_map (λ (l : Life). l.class) b ≡ option_map (λ (l : Life). l.class) a
class-in None None e = refl
class-in None (Some m) e = absurd (cc e)
class-in (Some l) None e = absurd (cc e)
class-in (Some l) (Some m) e = ap Some (ap (λ (z : Life). z.class) (same_Some (emptied m) (emptied l) e))

class-alike : (old new : List Object) → DifferInValues old new → (o : ℕ) → class_of new o ≡ class_of old o
class-alike old new differ o = class-in (life_of old o) (life_of new o) (lives-alike old new differ o)

follows : (old new : List Object) → DifferInValues old new → Follow old new
follows old new differ = record {
  stays = λ o c is. inl (class-alike old new differ o ∙ is);
  rests = λ o none. seen-number old new differ o ∙ none;
}

fits-stay : (p : Loaded) (old new : List Object) → DifferInValues old new → (at : Place) (v : Value) → FitsAt p old at v → FitsAt p new at v
fits-stay p old new differ at v f =
    let on = lives-on old new differ at.object f.life (life-of-lives f.lives) in
    record {
      object = on.object;
      life = on.life;
      lives = on.lives;
      property = f.property;
      is_property = subst (λ (c : ℕ). IsProperty p c at.property f.property) (sym on.same) f.is_property;
      reads = reads-still p old new (follows old new differ) v f.property.kind f.reads;
    }

all-fit-stay : (p : Loaded) (old new : List Object) → DifferInValues old new → (writes : List Assignment) → AllFit p old writes → AllFit p new writes
all-fit-stay p old new differ [] h = tt
all-fit-stay p old new differ (a ∷ rest) h = (fits-stay p old new differ a.place a.value h.0, all-fit-stay p old new differ rest h.1)

-- ---- in turn
pub wrote-push : (writes : List Assignment) (a : Assignment) (objects : List Object) → wrote (writes ++ a ∷ []) objects ≡ change_life a.place.object (written a.place.property a.value) (wrote writes objects)
wrote-push [] a objects = refl
wrote-push (b ∷ rest) a objects = wrote-push rest a (change_life b.place.object (written b.place.property b.value) objects)

pub wrote-other : (writes : List Assignment) (objects : List Object) (q : Place) → (In q (places_in writes) → ⊥) → values_in (wrote writes objects) q ≡ values_in objects q
wrote-other [] objects q out = refl
wrote-other (a ∷ rest) objects q out =
    wrote-other rest (change_life a.place.object (written a.place.property a.value) objects) q (λ i. out (inr i))
    ∙ value-kept objects a.place q a.value (different a.place q (λ e. out (inl e)))

pub wrote-sound : (p : Loaded) (bs : List Binding) (writes : List Assignment) (objects : List Object) → AreSound p objects bs → AllFit p objects writes → AreSound p (wrote writes objects) bs
wrote-sound p bs [] objects sound fits = sound
wrote-sound p bs (a ∷ rest) objects sound fits =
    let next : List Object = change_life a.place.object (written a.place.property a.value) objects in
    wrote-sound p bs rest next (given-sound p objects bs a.place a.value sound fits.0)
    (all-fit-stay p objects next (written-differs a.place.object a.place.property a.value objects) rest fits.1)

-- each property has the value that was written last
pub wrote-lasting : (p : Loaded) (writes : List Assignment) (objects : List Object) → AreTyped p objects → AllFit p objects writes → HaveLasting (wrote writes objects) writes
wrote-lasting p [] objects typed fits = tt
wrote-lasting p (a ∷ rest) objects typed fits =
    let next : List Object = change_life a.place.object (written a.place.property a.value) objects in
    let more = wrote-lasting p rest next (typed-written p objects a.place.object a.place.property a.value fits.0 typed)
    (all-fit-stay p objects next (written-differs a.place.object a.place.property a.value objects) rest fits.1) in
    elim (cases_Bool (is_in (places_in rest) a.place)) [
      | inl t ↦ subst (λ (b : Bool). AllByRecursion (λ (z : Assignment). values_in (wrote rest next) z.place ≡ Some z.value) (cond b (lasting rest) (a ∷ lasting rest))) (sym t) more
      | inr f ↦
          let there = has-value p objects typed a.place a.value fits.0 in
          let here : values_in (wrote rest next) a.place ≡ Some a.value = wrote-other rest next a.place (is_in-false (places_in rest) a.place f)
          ∙ value-written objects a.place a.value there.0 there.1 in
          subst (λ (b : Bool). AllByRecursion (λ (z : Assignment). values_in (wrote rest next) z.place ≡ Some z.value) (cond b (lasting rest) (a ∷ lasting rest))) (sym f) (here, more)
    ]

-- .. also where they read the same
pub lasting-same : (old new : List Object) (writes : List Assignment) → ((q : Place) → In q (places_in writes) → values_in new q ≡ values_in old q) → HaveLasting old writes → HaveLasting new writes
lasting-same old new [] same h = tt
lasting-same old new (a ∷ rest) same h = elim (cases_Bool (is_in (places_in rest) a.place)) [
  | inl t ↦
      let have = subst (λ (b : Bool). AllByRecursion (λ (z : Assignment). values_in old z.place ≡ Some z.value) (cond b (lasting rest) (a ∷ lasting rest))) t h in
      subst (λ (b : Bool). AllByRecursion (λ (z : Assignment). values_in new z.place ≡ Some z.value) (cond b (lasting rest) (a ∷ lasting rest))) (sym t)
      (lasting-same old new rest (λ q i. same q (inr i)) have)
  | inr f ↦
      let have = subst (λ (b : Bool). AllByRecursion (λ (z : Assignment). values_in old z.place ≡ Some z.value) (cond b (lasting rest) (a ∷ lasting rest))) f h in
      subst (λ (b : Bool). AllByRecursion (λ (z : Assignment). values_in new z.place ≡ Some z.value) (cond b (lasting rest) (a ∷ lasting rest))) (sym f)
      (same a.place (inl refl) ∙ have.0, lasting-same old new rest (λ q i. same q (inr i)) have.1)
]
