-- Where nothing of objects differs but values, who lives lives on, and references read as they did.
use Rattle.std.{proofs.Common.{◌≡◌, ℕ, zero, suc, List, [], ◌∷◌, map, All, Option, None, Some, refl, ap, sym, ◌∙◌, subst}, specs.Prelude.{slice_get}, specs.Option.{option_map, option_and_then}, proofs.lemmas.List.Elements.{All-weaker}, proofs.lemmas.Option.{same_Some}}
use Rattle.basic_types.specs.declared.value.Value.{Value}
use Rattle.basic_types.specs.declared.value.Value.TheVariants as variant
use Rattle.meta_model.specs.{declared.object.MetaObject.{MetaObject}, declared.object.MetaProperty.{MetaProperty}, declared.object.ValueType.{ValueType}, Loaded.{Loaded}, Members.{IsProperty}, declared.site.SourceProperty.{SourceProperty}}
use Rattle.object_tree.{specs.declared.life.Life.{Life}, specs.declared.object.Object.{Object}, specs.Objects.{Lives, life_of}, specs.Seen.{seen, seen_object}, specs.Typed.{AreTyped, IsTyped, ReadAs}, proofs.Changing.{life-of-lives, lives-of-life}}
use Rattle.binding_graph.specs.{declared.place.Place.{Place}, declared.binding.Binding.{Binding}, Bindings.{source_place, value_of}}
use Rattle.prop_bindings.specs.{Values.{values_in}, Changes.{valueless, DifferInValues}, Fits.{IsFit}}

abbrev pub emptied : Life → Life
emptied l = record l { values = [] }

-- ---- who lives, and of which class, stays
get-map : (f : Object → Object) (xs : List Object) (o : ℕ) → slice_get (map f xs) o ≡ option_map f (slice_get xs o)
get-map f [] o = refl
get-map f (x ∷ xs) zero = refl
get-map f (x ∷ xs) (suc o) = get-map f xs o

life-in : (there : Option Object) → option_and_then (λ (x : Object). x.life) (option_map valueless there) ≡ option_map emptied (option_and_then (λ (x : Object). x.life) there)
life-in None = refl
life-in (Some x) = refl

pub lives-alike : (old new : List Object) → DifferInValues old new → (o : ℕ) → option_map emptied (life_of new o) ≡ option_map emptied (life_of old o)
lives-alike old new differ o =
    sym (life-in (slice_get new o))
    ∙ ap (λ (there : Option Object). option_and_then (λ (x : Object). x.life) there) (sym (get-map valueless new o) ∙ ap (λ (zs : List Object). slice_get zs o) differ ∙ get-map valueless old o)
    ∙ life-in (slice_get old o)

-- a living object lives on
pub record LivesOn (new : List Object) (o : ℕ) (l : Life) : Type 0 where
  pub object : Object
  pub life : Life
  pub lives : Lives new o object life
  pub same : life.class ≡ l.class

pub lives-on : (old new : List Object) → DifferInValues old new → (o : ℕ) (l : Life) → life_of old o ≡ Some l → LivesOn new o l
lives-on old new differ o l is = by-life (life_of new o) refl (lives-alike old new differ o ∙ ap (option_map emptied) is)
  where
    by-life : (there : Option Life) → life_of new o ≡ there → option_map emptied there ≡ Some (emptied l) → LivesOn new o l
    by-life None at e = absurd (cc e)
    by-life (Some m) at e =
        let found = lives-of-life new o m at in
        record { object = found.0; life = m; lives = found.1; same = ap (λ (z : Life). z.class) (same_Some (emptied m) (emptied l) e) }

-- ---- values read as they did
seen-life : (o : ℕ) (there : Option Life) → option_map (λ (l : Life). o) (option_map emptied there) ≡ option_map (λ (l : Life). o) there
seen-life o None = refl
seen-life o (Some l) = refl

seen-valueless : (o : ℕ) (there : Option Object) → seen_object (option_map valueless there) o ≡ seen_object there o
seen-valueless o None = refl
seen-valueless o (Some x) = seen-life o x.life

-- a reference to this number reads as it did
pub seen-number : (old new : List Object) → DifferInValues old new → (o : ℕ) → seen_object (slice_get new o) o ≡ seen_object (slice_get old o) o
seen-number old new differ o =
    sym (seen-valueless o (slice_get new o))
    ∙ ap (λ (there : Option Object). seen_object there o) (sym (get-map valueless new o) ∙ ap (λ (zs : List Object). slice_get zs o) differ ∙ get-map valueless old o)
    ∙ seen-valueless o (slice_get old o)

pub seen-same : (old new : List Object) → DifferInValues old new → (v : Value) → seen new v ≡ seen old v
seen-same old new differ (variant.Int n) = refl
seen-same old new differ (variant.Bool b) = refl
seen-same old new differ (variant.Text t) = refl
seen-same old new differ (variant.Ref None) = refl
seen-same old new differ (variant.Ref (Some o)) = ap variant.Ref (seen-number old new differ o)
