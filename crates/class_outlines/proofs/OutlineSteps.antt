-- Outlining classes one after the other.
use Rattle.std.proofs.Common.{◌≡◌, ℕ, zero, suc, ◌+◌, ◌<◌, ◌≤◌, List, [], ◌∷◌, ◌++◌, map, take, drop, length, slice_get, Some, Any, inl, inr, refl, sym, ap, ◌∙◌, subst, arith, length-append}
use Rattle.std.proofs.lemmas.List.{take_all, take-append-le, length-take-le}
use Rattle.std.proofs.lemmas.Option.{none-some, same_Some, slice_get_within}
use Rattle.syntax_trees.specs.declared.program.Property.{Property}
use Rattle.syntax_trees.specs.declared.program.Class.{Class}
use Rattle.class_outlines.specs.declared.outline.Heading.{Heading}
use Rattle.class_outlines.specs.declared.outline.Outline.{Outline}
use Rattle.name_indexes.specs.Places.{StandsAt, Found}
use Rattle.class_outlines.specs.Outlines.{base_name, own_methods, qobject, IsOutline, HasOutline, Outlines}
use Rattle.class_outlines.specs.Bases.{LacksBase}
use Rattle.name_indexes.proofs.Prefixes.{next_take, last_at, last_of}
pub use Rattle.name_indexes.proofs.Prefixes.{drop_at, drop_end}
use Rattle.name_indexes.proofs.Once.{get_split_at}
use Rattle.name_indexes.proofs.Zips.{any_of, place_of_any, get_front}

abbrev outline_with : List ℕ → ℕ → List Heading → List Property → Outline
outline_with n b ms ps = record { name = n; base = Some b; methods = ms; properties = ps }

pub an_outline : (done : List Outline) (i : ℕ) (class : Class) (b : ℕ) (above : Outline) → Found (λ (o : Outline). o.name ≡ base_name class.base) done b above → (n : List ℕ) (ms : List Heading) (ps : List Property) → n ≡ class.name → ms ≡ above.methods ++ own_methods i class → ps ≡ above.properties ++ class.properties → IsOutline done i class (record { name = n; base = Some b; methods = ms; properties = ps })
an_outline done i class b above found n ms ps en em ep = record {
  number = b;
  based = found.first;
  is =
      ap (λ x. outline_with x b ms ps) en
      ∙ ap (λ x. outline_with class.name b x ps) (em ∙ ap (λ (o : Outline). o.methods ++ own_methods i class) (sym found.is))
      ∙ ap (λ x. outline_with class.name b (found.first.at.item.methods ++ own_methods i class) x) (ep ∙ ap (λ (o : Outline). o.properties ++ class.properties) (sym found.is));
}

-- ---- the loop over the classes
abbrev names : List Outline → List (List ℕ)
names os = map (λ (o : Outline). o.name) os

names_more : (os : List Outline) (o : Outline) → names (os ++ o ∷ []) ≡ names os ++ o.name ∷ []
names_more [] o = refl
names_more (u ∷ os) o = ap (λ ns. u.name ∷ ns) (names_more os o)

names_at : (os : List Outline) (k : ℕ) (o : Outline) → slice_get os k ≡ Some o → slice_get (names os) k ≡ Some o.name
names_at [] k o e = absurd (none-some o e)
names_at (u ∷ os) zero o e = ap (λ x. Some x) (ap (λ (x : Outline). x.name) (same_Some _ _ e))
names_at (u ∷ os) (suc k) o e = names_at os k o e

outline_at : (os : List Outline) (k : ℕ) (m : List ℕ) → slice_get (names os) k ≡ Some m → (o : Outline) × (slice_get os k ≡ Some o) × (o.name ≡ m)
outline_at [] k m e = absurd (none-some m e)
outline_at (u ∷ os) zero m e = (u, refl, same_Some _ _ e)
outline_at (u ∷ os) (suc k) m e = outline_at os k m e

any_name : (os : List Outline) (n : List ℕ) → Any (λ m. m ≡ n) (names os) → (k : ℕ) × StandsAt (λ (o : Outline). o.name ≡ n) os k
any_name os n any =
    let at = place_of_any (λ m. m ≡ n) (names os) any in
    let found = outline_at os at.0 at.1.item at.1.is in
    (at.0, record { item = found.0; is = found.1; has = found.2 ∙ at.1.has })

module _ (classes : List Class) (L : Type 0) where
  pub step_lacks : (os us : List Outline) (o : Outline) (i : ℕ) (class : Class) → slice_get classes i ≡ Some class → IsOutline os i class o → us ≡ os ++ o ∷ [] → (LacksBase (names os) (drop i classes) → L) → LacksBase (names us) (drop (i + 1) classes) → L
  step_lacks os us o i class at is e before h =
      let next : suc i ≡ i + 1 = omega arith in
      let name : o.name ≡ class.name = ap (λ (x : Outline). x.name) is.is in
      let more : names us ≡ names os ++ class.name ∷ [] = ap names e ∙ names_more os o ∙ ap (λ n. names os ++ n ∷ []) name in
      let h1 = subst (λ n. LacksBase (names us) (drop n classes)) (sym next) h in
      before (subst (λ cs. LacksBase (names os) cs) (sym (drop_at classes i class at)) (inr (subst (λ ns. LacksBase ns (drop (suc i) classes)) more h1)))

  pub none_lacks : (os : List Outline) (i : ℕ) (class : Class) → slice_get classes i ≡ Some class → (LacksBase (names os) (drop i classes) → L) → ((k : ℕ) → ¬ StandsAt (λ (o : Outline). o.name ≡ base_name class.base) os k) → L
  none_lacks os i class at before none =
      before (subst (λ cs. LacksBase (names os) cs) (sym (drop_at classes i class at)) (inl (λ any. let found = any_name os (base_name class.base) any in none found.0 found.1)))

-- ---- one class more
-- what is outlined stays so
keeps_outline : (os : List Outline) (o : Outline) (k : ℕ) (class : Class) → HasOutline os k class → HasOutline (os ++ o ∷ []) k class
keeps_outline os o k class h =
    let within : suc k < length os = slice_get_within os (suc k) h.outline h.is in
    record {
      outline = h.outline;
      is = get_front os (o ∷ []) (suc k) h.outline h.is;
      outlined = subst (λ before. IsOutline before k class h.outline) (sym (take-append-le (suc k) os (o ∷ []) (omega (arith, within)))) h.outlined;
    }

one_more : (done : List Class) (class : Class) (os : List Outline) (o : Outline) → Outlines done os → IsOutline os (length done) class o → Outlines (done ++ class ∷ []) (os ++ o ∷ [])
one_more done class os o h is = record {
  root = get_front os (o ∷ []) 0 qobject h.root;
  counted = omega (arith, length-append os (o ∷ []), length-append done (class ∷ []), h.counted);
  classes = at;
}
  where
    all : take (suc (length done)) (os ++ o ∷ []) ≡ os
    all = take-append-le (suc (length done)) os (o ∷ []) (omega (arith, h.counted)) ∙ take_all (suc (length done)) os (omega (arith, h.counted))

    here : HasOutline (os ++ o ∷ []) (length done) class
    here = record {
      outline = o;
      is = subst (λ n. slice_get (os ++ o ∷ []) n ≡ Some o) h.counted (last_at os o);
      outlined = subst (λ before. IsOutline before (length done) class o) (sym all) is;
    }

    at : (k : ℕ) (x : Class) → slice_get (done ++ class ∷ []) k ≡ Some x → HasOutline (os ++ o ∷ []) k x
    at k x e =
        elim (get_split_at done (class ∷ []) k x e) [
          | inl f ↦ keeps_outline os o k x (h.classes k x f)
          | inr r ↦
              let last = last_of class x r.0 r.2 in
              let place : length done ≡ k = omega (arith, r.1, last.0) in
              subst (λ n. HasOutline (os ++ o ∷ []) n x) place (subst (λ y. HasOutline (os ++ o ∷ []) (length done) y) last.1 here)
        ]

pub step_outlined : (classes : List Class) (os us : List Outline) (o : Outline) (i : ℕ) (class : Class) → slice_get classes i ≡ Some class → IsOutline os i class o → us ≡ os ++ o ∷ [] → Outlines (take i classes) os → Outlines (take (i + 1) classes) us
step_outlined classes os us o i class at is e before =
    let within : i < length classes = slice_get_within classes i class at in
    let count : length (take i classes) ≡ i = length-take-le i classes (omega (arith, within)) in
    let next : suc i ≡ i + 1 = omega arith in
    let more : take (i + 1) classes ≡ take i classes ++ class ∷ [] = subst (λ n. take n classes ≡ take i classes ++ class ∷ []) next (next_take classes i class at) in
    subst (λ cs. Outlines cs us) (sym more)
    (subst (λ xs. Outlines (take i classes ++ class ∷ []) xs) (sym e) (one_more (take i classes) class os o before (subst (λ n. IsOutline os n class o) (sym count) is)))

pub at_end : (classes : List Class) (os : List Outline) (i : ℕ) → length classes ≤ i → Outlines (take i classes) os → Outlines classes os
at_end classes os i past h = subst (λ cs. Outlines cs os) (take_all i classes past) h

-- where all classes are outlined, none lacks its base
name_any : (os : List Outline) (n : List ℕ) (k : ℕ) → StandsAt (λ (o : Outline). o.name ≡ n) os k → Any (λ m. m ≡ n) (names os)
name_any os n k at = any_of (λ m. m ≡ n) (names os) k (record { item = at.item.name; is = names_at os k at.item at.is; has = at.has })

none_from : (cs : List Class) (i : ℕ) (all : List Outline) → ((k : ℕ) (class : Class) → slice_get cs k ≡ Some class → HasOutline all (i + k) class) → ¬ LacksBase (names (take (suc i) all)) cs
none_from [] i all has lacks = lacks
none_from (class ∷ cs) i all has (inl none) =
    let h : HasOutline all i class = subst (λ n. HasOutline all n class) (omega arith) (has 0 class refl) in
    none (name_any (take (suc i) all) (base_name class.base) h.outlined.number h.outlined.based.at)
none_from (class ∷ cs) i all has (inr rest) =
    let h : HasOutline all i class = subst (λ n. HasOutline all n class) (omega arith) (has 0 class refl) in
    let name : h.outline.name ≡ class.name = ap (λ (x : Outline). x.name) h.outlined.is in
    let more : names (take (suc (suc i)) all) ≡ names (take (suc i) all) ++ class.name ∷ [] =
    ap names (next_take all (suc i) h.outline h.is) ∙ names_more (take (suc i) all) h.outline ∙ ap (λ n. names (take (suc i) all) ++ n ∷ []) name in
    none_from cs (suc i) all (λ k x e. subst (λ n. HasOutline all n x) (omega arith) (has (suc k) x e)) (subst (λ ns. LacksBase ns cs) (sym more) rest)

pub none_lack : (classes : List Class) (all : List Outline) → Outlines classes all → ¬ LacksBase (names (qobject ∷ [])) classes
none_lack classes all h lacks =
    none_from classes 0 all (λ k x e. subst (λ n. HasOutline all n x) (omega arith) (h.classes k x e))
    (subst (λ ns. LacksBase ns classes) (sym (ap names (next_take all 0 qobject h.root))) lacks)
