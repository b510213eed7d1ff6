-- Properties of classes by their numbers, and whether their values at first are of their types.
use Rattle.std.proofs.Common.{◌≡◌, ◌↔◌, ◌+◌, ◌<◌, ◌≤◌, arith, below_more, ℕ, suc, Bool, IsTrue, List, [], ◌∷◌, length, slice_get, Option, None, Some, refl, sym, ap, ◌∙◌, subst}
use Rattle.std.specs.List.{AllZip}
use Rattle.std.specs.Option.{option_and_then, option_map}
use Rattle.std.proofs.lemmas.Option.{none-some, same_Some, slice_get_within}
use Rattle.meta_model.proofs.Zips.{zip_left}
use Rattle.syntax_trees.specs.declared.syntax.Expr.{Expr}
use Rattle.meta_model.specs.declared.object.ValueType.{ValueType}
use Rattle.meta_model.specs.declared.object.MetaObject.{MetaObject}
use Rattle.meta_model.specs.declared.object.MetaProperty.{MetaProperty}
use Rattle.meta_model.specs.declared.site.SourceProperty.{SourceProperty}
use Rattle.meta_model.specs.declared.site.MetaSite.{MetaSite}
use Rattle.meta_model.specs.Loaded.{Loaded}
use Rattle.meta_model.specs.Members.{IsProperty}
use Rattle.meta_model.specs.Sound.{IsSoundClass}
use Rattle.meta_model.specs.Values.{Has}
use Rattle.meta_model.specs.Typed.{TellsType}
use Rattle.type_check.specs.Accepting.{IsGiven}
use Rattle.type_check.specs.Typed.{IsTypedProperty, kind_in, kind_of_source, IsTypedSite}

-- a property that was found
found_property : (found : Option MetaObject) (q : ℕ) (kind : ValueType)
    → option_map (λ (property : MetaProperty). property.kind) (option_and_then (λ (class : MetaObject). slice_get class.properties q) found) ≡ Some kind
    → (class : MetaObject) × (property : MetaProperty) × (found ≡ Some class) × (slice_get class.properties q ≡ Some property) × (property.kind ≡ kind)
found_property None q kind e = absurd (none-some kind e)
found_property (Some class) q kind e =
    let at = at_place (slice_get class.properties q) kind e in (class, at.0, refl, at.1, at.2)
  where
    at_place : (found : Option MetaProperty) (kind : ValueType) → option_map (λ (property : MetaProperty). property.kind) found ≡ Some kind → (property : MetaProperty) × (found ≡ Some property) × (property.kind ≡ kind)
    at_place None kind e = absurd (none-some kind e)
    at_place (Some property) kind e = (property, refl, same_Some _ _ e)

pub has_kind : (p : Loaded) (c q : ℕ) (kind : ValueType) → kind_in p c q ≡ Some kind → (property : MetaProperty) × IsProperty p c q property × (property.kind ≡ kind)
has_kind p c q kind e =
    let at = found_property (slice_get p.classes c) q kind e in
    (at.1, record { class = at.0; is_class = record { is = at.2 }; is = at.3 }, at.4)

pub kind_is : (p : Loaded) (c q : ℕ) (property : MetaProperty) → IsProperty p c q property → kind_in p c q ≡ Some property.kind
kind_is p c q property is =
    ap (λ (found : Option MetaObject). option_map (λ (x : MetaProperty). x.kind) (option_and_then (λ (class : MetaObject). slice_get class.properties q) found)) is.is_class.is
    ∙ ap (option_map (λ (x : MetaProperty). x.kind)) is.is

-- a property of a class is one
pub same_property : (p : Loaded) (c q : ℕ) (class : MetaObject) (a b : MetaProperty) → slice_get p.classes c ≡ Some class → slice_get class.properties q ≡ Some a → IsProperty p c q b → b ≡ a
same_property p c q class a b there at is =
    let same : is.class ≡ class = same_Some _ _ (sym is.is_class.is ∙ there) in
    same_Some _ _ (sym is.is ∙ ap (λ (k : MetaObject). slice_get k.properties q) same ∙ at)

-- ---- values at first
pub property_told : (p : Loaded) (c q : ℕ) (class : MetaObject) (property : MetaProperty) (r : Bool) → IsSoundClass p c class → slice_get p.classes c ≡ Some class
    → slice_get class.properties q ≡ Some property → TellsType p property.initial None property.kind r → IsTrue r ↔ IsTypedProperty p c q
property_told p c q class property r sound there at tells = (
  λ t. λ other classes is.
      subst (λ (x : MetaProperty). Has p classes x.initial x.kind) (sym (same_property p c q class property other there at is))
      ((tells classes (λ o e. absurd ((sound.properties q property at).initial o e))).0 t),
  λ h. (tells (λ _. None) (λ o e. refl)).1 (h property (λ _. None) (record { class = class; is_class = record { is = there }; is = at })),
)

-- ---- binding sites
site_given : (p : Loaded) (site : MetaSite) (kind : ValueType) → kind_in p site.class site.property ≡ Some kind
    → IsGiven p (kind_of_source p site.formals) kind site.formula ↔ IsTypedSite p site
site_given p site kind is =
    let has = has_kind p site.class site.property kind is in (
      λ given. record {
        property = has.0;
        is = has.1;
        given = subst (λ (T : ValueType). IsGiven p (kind_of_source p site.formals) T site.formula) (sym has.2) given;
      },
      λ typed.
          let same : typed.property.kind ≡ kind = same_Some _ _ (sym (kind_is p site.class site.property typed.property typed.is) ∙ is) in
          subst (λ (T : ValueType). IsGiven p (kind_of_source p site.formals) T site.formula) same typed.given,
    )

pub site_told : (p : Loaded) (site : MetaSite) (kind : ValueType) (formals : List ℕ) (e : Expr SourceProperty) (a : Bool)
    → kind_in p site.class site.property ≡ Some kind → formals ≡ site.formals → e ≡ site.formula
    → (IsTrue a ↔ IsGiven p (kind_of_source p formals) kind e) → IsTrue a ↔ IsTypedSite p site
site_told p site kind formals e a is are at told =
    let given = site_given p site kind is in
    let here : IsTrue a ↔ IsGiven p (kind_of_source p site.formals) kind site.formula =
    subst (λ (x : Expr SourceProperty). IsTrue a ↔ IsGiven p (kind_of_source p site.formals) kind x) at
    (subst (λ (fs : List ℕ). IsTrue a ↔ IsGiven p (kind_of_source p fs) kind e) are told) in
    (λ t. given.0 (here.0 t), λ typed. here.1 (given.1 typed))

-- lists that relate element by element are of one length
pub zip_length : {A B : Type 0} (R : A → B → Type 0) (xs : List A) (ys : List B) → AllZip R xs ys → length xs ≡ length ys
zip_length R [] [] h = refl
zip_length R [] (y ∷ ys) h = absurd h
zip_length R (x ∷ xs) [] h = absurd h
zip_length R (x ∷ xs) (y ∷ ys) h = ap suc (zip_length R xs ys h.1)

-- ---- two lists side by side
module _ {A B : Type 0} (R : A → B → Type 0) (xs : List A) (ys : List B) where
  -- the elements before a place relate
  abbrev pub RelateBefore : ℕ → Type 0
  RelateBefore i = (k : ℕ) → k < i → (x : A) (y : B) → slice_get xs k ≡ Some x → slice_get ys k ≡ Some y → R x y

  pub relate_more : (i : ℕ) (x : A) (y : B) → RelateBefore i → slice_get xs i ≡ Some x → slice_get ys i ≡ Some y → R x y → RelateBefore (i + 1)
  relate_more i x y before at to has =
      below_more _ _ before (λ u v e f. subst (λ (w : A). R w v) (same_Some _ _ (sym at ∙ e)) (subst (λ (w : B). R x w) (same_Some _ _ (sym to ∙ f)) has))

-- lists of one length whose elements relate
pub zip_of : {A B : Type 0} (R : A → B → Type 0) (xs : List A) (ys : List B) → length xs ≡ length ys
    → ((k : ℕ) (x : A) (y : B) → slice_get xs k ≡ Some x → slice_get ys k ≡ Some y → R x y) → AllZip R xs ys
zip_of R [] [] e h = tt
zip_of R [] (y ∷ ys) e h = absurd (omega arith)
zip_of R (x ∷ xs) [] e h = absurd (omega arith)
zip_of R (x ∷ xs) (y ∷ ys) e h = (h 0 x y refl refl, zip_of R xs ys (omega arith) (λ k. h (suc k)))

pub relate_all : {A B : Type 0} (R : A → B → Type 0) (xs : List A) (ys : List B) (i : ℕ) → length xs ≡ length ys → RelateBefore R xs ys i → length xs ≤ i → AllZip R xs ys
relate_all R xs ys i e before past = zip_of R xs ys e (λ k x y at to. let inside : k < length xs = slice_get_within xs k x at in before k (omega arith) x y at to)

-- an element that doesn't relate
pub unrelated : {A B : Type 0} (R : A → B → Type 0) (xs : List A) (ys : List B) (i : ℕ) (x : A) (y : B) → slice_get xs i ≡ Some x → slice_get ys i ≡ Some y → (¬ R x y) → ¬ AllZip R xs ys
unrelated R xs ys i x y at to not h =
    let pair = zip_left R xs ys h i x at in
    not (subst (λ w. R x w) (same_Some _ _ (sym pair.1 ∙ to)) pair.2)
