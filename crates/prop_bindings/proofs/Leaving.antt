-- Objects and bindings that agree do so after a change that leaves what the bindings touch as it was, and once one of the
-- objects is dead, without what touches it.
use Rattle.std.{proofs.Common.{◌≡◌, ◌≢◌, ℕ, zero, suc, eqb, Bool, true, not, ◌||◌, ◌<◌, arith, List, [], ◌∷◌, filter, All, length, get_or, inl, inr, Option, None, Some, refl, ap, sym, ◌∙◌, subst}, specs.Prelude.{slice_get}, specs.Option.{option_map, option_and_then}, proofs.lemmas.Bool.{false≢true, cases_Bool, eq-eqb}, proofs.lemmas.List.Elements.{All-nil, All-filter, All-weaker, filter_passes}, proofs.lemmas.Option.{same_Some, none-some}}
use Rattle.basic_types.specs.declared.value.Value.{Value}
use Rattle.meta_model.specs.{Loaded.{Loaded}, Members.{IsProperty}, Among.{is_among}, declared.site.SourceProperty.{SourceProperty}}
use Rattle.object_tree.{specs.declared.life.Life.{Life}, specs.declared.object.Object.{Object}, specs.Family.{dead, leaves, parent_of, without_life}, specs.Objects.{life_of, home_of}, specs.Typed.{AreTyped}, proofs.Changing.{get-change_other, life-of-lives, lives-of-life}, proofs.Families.{leaves-part}, proofs.TypedObjects.{typed-died}}
use Rattle.binding_graph.{specs.declared.place.Place.{Place}, specs.declared.binding.Binding.{Binding}, specs.Places.{property_of}, specs.Bindings.{binding_at, source_place, touches, dropped, value_of}, proofs.Apart.{some-fewer, apart-fewer, acyclic-fewer}, proofs.Loops.{chain-ends}}
use Rattle.prop_bindings.{specs.Values.{values_in}, specs.Fits.{IsFit, IsInOneLoop, Agree}, specs.Laws.{LeftAgree}, proofs.Alike.{reads-sort, plain-has}, proofs.More.{values-more}, proofs.There.{bound-has}}

-- ---- no bindings
pub agree-none : (p : Loaded) (objects : List Object) → AreTyped p objects → Agree p objects []
agree-none p objects typed = record {
  typed = typed;
  fit = All-nil (IsFit p objects);
  one_loop = All-nil (IsInOneLoop objects);
  apart = tt;
  acyclic = λ loop. (let last = chain-ends (binding_at []) loop.1 in let is : None ≡ Some last.0 = last.1 in none-some last.0 is);
  settled = λ q b some. absurd (none-some b some);
}

-- ---- fewer bindings
pub agree-fewer : (p : Loaded) (objects : List Object) (keep : Binding → Bool) (bs : List Binding) → Agree p objects bs → Agree p objects (filter keep bs)
agree-fewer p objects keep bs a = record {
  typed = a.typed;
  fit = All-filter keep (IsFit p objects) bs a.fit;
  one_loop = All-filter keep (IsInOneLoop objects) bs a.one_loop;
  apart = apart-fewer keep bs a.apart;
  acyclic = acyclic-fewer keep bs a.apart a.acyclic;
  settled = λ q b some. a.settled q b (some-fewer keep bs a.apart q b some);
}

-- ---- what a binding touches
or-left : (x y : Bool) → x ≡ true → (x || y) ≡ true
or-left x y t = ap (λ (b : Bool). b || y) t

or-right : (x y : Bool) → y ≡ true → (x || y) ≡ true
or-right x y t = elim (cases_Bool x) [ inl h ↦ or-left x y h | inr f ↦ ap (λ (b : Bool). b || y) f ∙ t ]

among-source : (sources : List ℕ) (k o : ℕ) → slice_get sources k ≡ Some o → is_among o sources ≡ true
among-source [] k o is = absurd (cc is)
among-source (x ∷ xs) zero o is = or-left (eqb x o) (is_among o xs) (eq-eqb x o (same_Some x o is))
among-source (x ∷ xs) (suc k) o is = or-right (eqb x o) (is_among o xs) (among-source xs k o is)

touches-target : (b : Binding) → touches b.target.object b ≡ true
touches-target b = or-left (eqb b.target.object b.target.object) (is_among b.target.object b.sources) (eq-eqb b.target.object b.target.object refl)

touches-source : (b : Binding) (k o : ℕ) → slice_get b.sources k ≡ Some o → touches o b ≡ true
touches-source b k o is = or-right (eqb b.target.object o) (is_among o b.sources) (among-source b.sources k o is)

-- ---- objects that live on in their class, with their values
abbrev pub LivesOn : List Object → List Object → ℕ → Type 0
LivesOn old new o = (l : Life) → life_of old o ≡ Some l → (m : Life) × (life_of new o ≡ Some m) × (m.class ≡ l.class) × (m.values ≡ l.values)

-- .. all that the binding touches
abbrev pub LiveOnFor : List Object → List Object → Binding → Type 0
LiveOnFor old new b = (o : ℕ) → touches o b ≡ true → LivesOn old new o

stays-value : (old new : List Object) (q : Place) → LivesOn old new q.object → (v : Value) → values_in old q ≡ Some v → values_in new q ≡ Some v
stays-value old new q stays v is = by-life (life_of old q.object) refl is
  where
    by-life : (there : Option Life) → life_of old q.object ≡ there → option_and_then (λ (l : Life). slice_get l.values q.property) there ≡ Some v → values_in new q ≡ Some v
    by-life None at e = absurd (cc e)
    by-life (Some l) at e =
        let on = stays l at in
        ap (λ (there : Option Life). option_and_then (λ (m : Life). slice_get m.values q.property) there) on.1 ∙ ap (λ (vs : List Value). slice_get vs q.property) on.3 ∙ e

module _ (old new : List Object) (b : Binding) (stays : LiveOnFor old new b) where
  source-still : (s : SourceProperty) (v : Value) → option_and_then (values_in old) (source_place b.sources s) ≡ Some v → option_and_then (values_in new) (source_place b.sources s) ≡ Some v
  source-still s v is = by-source (slice_get b.sources s.source) refl is
    where
      by-source : (found : Option ℕ) → slice_get b.sources s.source ≡ found → option_and_then (values_in old) (option_map (λ o. property_of o s.property) found) ≡ Some v → option_and_then (values_in new) (option_map (λ o. property_of o s.property) found) ≡ Some v
      by-source None at e = absurd (cc e)
      by-source (Some o) at e = stays-value old new (property_of o s.property) (stays o (touches-source b s.source o at)) v e

  value-still : (v : Value) → value_of b (values_in old) ≡ Some v → value_of b (values_in new) ≡ Some v
  value-still = values-more (λ (s : SourceProperty). option_and_then (values_in old) (source_place b.sources s)) (λ (s : SourceProperty). option_and_then (values_in new) (source_place b.sources s)) source-still b.formula

  fit-still : (p : Loaded) → IsFit p old b → IsFit p new b
  fit-still p f =
      let on = stays b.target.object (touches-target b) f.typed.life (life-of-lives f.typed.lives) in
      let found = lives-of-life new b.target.object on.0 on.1 in
      let property = f.typed.property in
      record {
        value = f.value;
        is = value-still f.value f.is;
        typed = record {
          object = found.0;
          life = on.0;
          lives = found.1;
          property = property;
          is_property = subst (λ (c : ℕ). IsProperty p c b.target.property property) (sym on.2) f.typed.is_property;
          reads = plain-has p new f.value property.kind f.plain (reads-sort p old f.value property.kind f.typed.reads);
        };
        plain = f.plain;
      }

got : (xs : List ℕ) (k d : ℕ) → k < length xs → slice_get xs k ≡ Some (get_or xs k d)
got [] k d within = absurd (omega (arith, within))
got (x ∷ xs) zero d within = refl
got (x ∷ xs) (suc k) d within = let less : k < length xs = omega (arith, within) in got xs k d less

-- what lives, and in which event loop
home-there : (objects : List Object) (o home : ℕ) → home_of objects o ≡ Some home → (l : Life) × (life_of objects o ≡ Some l) × (l.home ≡ home)
home-there objects o home is = by-life (life_of objects o) refl is
  where
    by-life : (there : Option Life) → life_of objects o ≡ there → option_map (λ (l : Life). l.home) there ≡ Some home → (l : Life) × (life_of objects o ≡ Some l) × (l.home ≡ home)
    by-life None at e = absurd (cc e)
    by-life (Some l) at e = (l, at, same_Some l.home home e)

all-still : (p : Loaded) (old new : List Object) (bs : List Binding) → All (LiveOnFor old new) bs → All (IsFit p old) bs → All (IsFit p new) bs
all-still p old new bs stay fit k d within = fit-still old new (get_or bs k d) (stay k d within) p (fit k d within)

-- what agrees goes on to where the objects of each binding still live in one loop
pub agree-still : (p : Loaded) (old new : List Object) (bs : List Binding) → AreTyped p new → All (LiveOnFor old new) bs → All (IsInOneLoop new) bs → Agree p old bs → Agree p new bs
agree-still p old new bs typed stay one_loop a = record {
  typed = typed;
  fit = all-still p old new bs stay a.fit;
  one_loop = one_loop;
  apart = a.apart;
  acyclic = a.acyclic;
  settled = λ q b some.
      let f = bound-has (IsFit p old) bs a.fit q b some in
      let s = bound-has (LiveOnFor old new) bs stay q b some in
      let touched : touches q.object b ≡ true = subst (λ (r : Place). touches r.object b ≡ true) f.1 (touches-target b) in
      stays-value old new q (s.0 q.object touched) f.0.value (a.settled q b some ∙ f.0.is) ∙ sym (value-still old new b s.0 f.0.value f.0.is);
}

-- ---- .. and in their event loop
abbrev pub Stays : List Object → List Object → ℕ → Type 0
Stays old new o = (l : Life) → life_of old o ≡ Some l → (m : Life) × (life_of new o ≡ Some m) × (m.class ≡ l.class) × (m.values ≡ l.values) × (m.home ≡ l.home)

-- .. all that the binding touches
abbrev pub StayFor : List Object → List Object → Binding → Type 0
StayFor old new b = (o : ℕ) → touches o b ≡ true → Stays old new o

lives-on : (old new : List Object) (o : ℕ) → Stays old new o → LivesOn old new o
lives-on old new o stays l is = let on = stays l is in (on.0, on.1, on.2, on.3)

home-still : (old new : List Object) (o home : ℕ) → Stays old new o → home_of old o ≡ Some home → home_of new o ≡ Some home
home-still old new o home stays is =
    let was = home-there old o home is in
    let on = stays was.0 was.1 in
    ap (option_map (λ (l : Life). l.home)) on.1 ∙ ap Some (on.4 ∙ was.2)

joined-still : (p : Loaded) (old new : List Object) (b : Binding) → StayFor old new b → IsFit p old b → IsInOneLoop old b → IsInOneLoop new b
joined-still p old new b stays f h k d within =
    let o : ℕ = get_or b.sources k d in
    let at : home_of old b.target.object ≡ Some f.typed.life.home = ap (option_map (λ (l : Life). l.home)) (life-of-lives f.typed.lives) in
    home-still old new o f.typed.life.home (stays o (touches-source b k o (got b.sources k d within))) (h k d within ∙ at)
    ∙ sym (home-still old new b.target.object f.typed.life.home (stays b.target.object (touches-target b)) at)

pub agree-kept : (p : Loaded) (old new : List Object) (bs : List Binding) → AreTyped p new → All (StayFor old new) bs → Agree p old bs → Agree p new bs
agree-kept p old new bs typed stay a =
    agree-still p old new bs typed
    (All-weaker (StayFor old new) (LiveOnFor old new) (λ b h o touched. lives-on old new o (h o touched)) bs stay)
    (λ k d within. joined-still p old new (get_or bs k d) (stay k d within) (a.fit k d within) (a.one_loop k d within))
    a

-- .. where every object that lives does so
pub agree-living : (p : Loaded) (old new : List Object) (bs : List Binding) → AreTyped p new → ((o : ℕ) → Stays old new o) → Agree p old bs → Agree p new bs
agree-living p old new bs typed stays a = agree-kept p old new bs typed (λ k d within o touched. stays o) a

-- ---- a death
life-kept : (o k : ℕ) (objects : List Object) → k ≢ o → life_of (without_life o objects) k ≡ life_of objects k
life-kept o k objects other =
    ap (λ (there : Option Object). option_and_then (λ (x : Object). x.life) there) (get-change_other o k dead (leaves (parent_of objects o) o objects) other)
    ∙ leaves-part (λ (there : Option Object). option_and_then (λ (x : Object). x.life) there) (parent_of objects o) o k objects (λ x. refl)

stays-apart : (o k : ℕ) (objects : List Object) → k ≢ o → Stays objects (without_life o objects) k
stays-apart o k objects other l is = (l, life-kept o k objects other ∙ is, refl, refl, refl)

untouched : (o : ℕ) (objects : List Object) (b : Binding) → not (touches o b) ≡ true → StayFor objects (without_life o objects) b
untouched o objects b away k touched = stays-apart o k objects (λ same.
    let hit : touches o b ≡ true = subst (λ (j : ℕ). touches j b ≡ true) same touched in
    false≢true (sym (ap not hit) ∙ away))

all-untouched : (o : ℕ) (objects : List Object) (bs : List Binding) → All (StayFor objects (without_life o objects)) (dropped o bs)
all-untouched o objects bs = All-weaker (λ (b : Binding). not (touches o b) ≡ true) (StayFor objects (without_life o objects)) (untouched o objects) (dropped o bs) (filter_passes (λ (b : Binding). not (touches o b)) bs)

pub left_agree : LeftAgree
left_agree p bs objects o a = agree-kept p objects (without_life o objects) (dropped o bs) (typed-died p o objects a.typed) (all-untouched o objects bs) (agree-fewer p objects (λ (b : Binding). not (touches o b)) bs a)
