-- Living objects keep their classes, values and event loops, so that what agrees goes on to, where an object is created or
-- adopted, is blocked, or its deletion is scheduled.
use Rattle.std.proofs.Common.{◌≡◌, ℕ, zero, suc, List, [], ◌∷◌, ◌++◌, Option, None, Some, refl, ap, sym, ◌∙◌, subst, inl, inr}
use Rattle.std.specs.Prelude.{slice_get}
use Rattle.std.specs.Option.{option_map}
use Rattle.std.proofs.lemmas.Bool.{cases_eq}
use Rattle.std.proofs.lemmas.Option.{same_Some}
use Rattle.basic_types.specs.declared.value.Value.{Value}
use Rattle.meta_model.specs.Loaded.{Loaded}
use Rattle.object_tree.specs.declared.life.Life.{Life}
use Rattle.object_tree.specs.declared.object.Object.{Object}
use Rattle.object_tree.specs.Family.{moved, put_under}
use Rattle.object_tree.specs.Creating.{fresh, initial_values}
use Rattle.object_tree.specs.Objects.{blocked, life_of, change_life, scheduled, with_life}
use Rattle.object_tree.specs.Typed.{AreTyped}
use Rattle.object_tree.proofs.Changing.{life-of-lives, lives-of-life, life-part, part-change}
use Rattle.object_tree.proofs.Families.{moved-part}
use Rattle.object_tree.proofs.TypedObjects.{typed-change, typed-created, typed-moved}
use Rattle.binding_graph.specs.declared.binding.Binding.{Binding}
use Rattle.prop_bindings.specs.Fits.{Agree}
use Rattle.prop_bindings.specs.Laws.{UnboundAgree, CreatedAgree, AdoptedAgree, BlockedAgree, ScheduledAgree}
use Rattle.prop_bindings.proofs.Leaving.{Stays, agree-living, agree-none}

abbrev pub LiveOn : List Object → List Object → Type 0
LiveOn old new = (o : ℕ) → Stays old new o

pub agree-on : (p : Loaded) (old new : List Object) → LiveOn old new → (bs : List Binding) → AreTyped p new → Agree p old bs → Agree p new bs
agree-on p old new on bs typed agree = agree-living p old new bs typed on agree

-- the parts of a life that matter here
pub record Part : Type 0 where
  pub class : ℕ
  pub values : List Value
  pub home : ℕ

abbrev pub part_of : Life → Part
part_of l = record { class = l.class; values = l.values; home = l.home }

-- .. whether there is an object, and whether it lives
abbrev pub part_in : Option Object → Option (Option Part)
part_in there = option_map (λ (x : Object). option_map part_of x.life) there

part-with_life : (f : Life → Life) → ((l : Life) → part_of (f l) ≡ part_of l) → (x : Object) → part_in (Some (with_life f x)) ≡ part_in (Some x)
part-with_life f h x = ap Some (life-part (λ (m : Option Life). option_map part_of m) f (λ l. ap Some (h l)) x.life)

-- objects that show the same class, values and home
stays-shown : (new : List Object) (o : ℕ) (l : Life) (there : Option Object) → slice_get new o ≡ there → part_in there ≡ Some (Some (part_of l)) → (m : Life) × (life_of new o ≡ Some m) × (m.class ≡ l.class) × (m.values ≡ l.values) × (m.home ≡ l.home)
stays-shown new o l None is shown = absurd (cc shown)
stays-shown new o l (Some y) is shown = by_life y.life refl (same_Some (option_map part_of y.life) (Some (part_of l)) shown)
  where
    by_life : (there : Option Life) → y.life ≡ there → option_map part_of there ≡ Some (part_of l) → (m : Life) × (life_of new o ≡ Some m) × (m.class ≡ l.class) × (m.values ≡ l.values) × (m.home ≡ l.home)
    by_life None lives e = absurd (cc e)
    by_life (Some m) lives e =
        let same : part_of m ≡ part_of l = same_Some (part_of m) (part_of l) e in
        (m, life-of-lives {objects = new} {o = o} {x = y} {l = m} (record { is = is; lives = lives }), ap (λ (z : Part). z.class) same, ap (λ (z : Part). z.values) same, ap (λ (z : Part). z.home) same)

shown-on : (old new : List Object) → ((o : ℕ) → part_in (slice_get new o) ≡ part_in (slice_get old o)) → LiveOn old new
shown-on old new same o l is =
    let found = lives-of-life old o l is in
    stays-shown new o l (slice_get new o) refl (same o ∙ ap part_in found.1.is ∙ ap (λ (m : Option Life). Some (option_map part_of m)) found.1.lives)

-- a life is changed in other parts: its object is blocked, or its deletion is scheduled
pub live-change : (o : ℕ) (f : Life → Life) (objects : List Object) → ((l : Life) → part_of (f l) ≡ part_of l) → LiveOn objects (change_life o f objects)
live-change o f objects h =
    shown-on objects (change_life o f objects) (λ k. part-change part_in o k (with_life f) objects (part-with_life f h))

-- an object is adopted
pub live-moved : (a c : ℕ) (objects : List Object) → LiveOn objects (moved a c objects)
live-moved a c objects =
    shown-on objects (moved a c objects) (λ k. moved-part part_in objects a c k (λ x l. refl) (part-with_life (put_under a) (λ l. refl)))

-- an object is created
get-before : (xs : List Object) (z x : Object) (o : ℕ) → slice_get xs o ≡ Some x → slice_get (xs ++ z ∷ []) o ≡ Some x
get-before [] z x o is = absurd (cc is)
get-before (y ∷ xs) z x zero is = is
get-before (y ∷ xs) z x (suc o) is = get-before xs z x o is

pub live-created : (objects : List Object) (z : Object) → LiveOn objects (objects ++ z ∷ [])
live-created objects z o l is =
    let found = lives-of-life objects o l is in
    (l, life-of-lives {objects = objects ++ z ∷ []} {o = o} {x = found.0} {l = l} (record { is = get-before objects z found.0 o found.1.is; lives = found.1.lives }), refl, refl, refl)

-- ---- the laws
pub unbound_agree : UnboundAgree
unbound_agree p objects typed = agree-none p objects typed

pub created_agree : CreatedAgree
created_agree p bs old new name class home o agree is =
    subst (λ (l : List Object). Agree p l bs) (sym is.appended)
    (agree-on p old _ (live-created old (fresh name is.number home (initial_values is.kind))) bs (typed-created p old name is.number home is.kind is.may.is is.may.begins agree.typed) agree)

pub adopted_agree : AdoptedAgree
adopted_agree p bs old new parent child life agree is = by_parent life.parent refl
  where
    after : Agree p (moved parent child old) bs
    after = agree-on p old (moved parent child old) (live-moved parent child old) bs (typed-moved p parent child old agree.typed) agree

    at : (l : List Object) → new ≡ l → Agree p l bs → Agree p new bs
    at l e a = subst (λ (m : List Object). Agree p m bs) (sym e) a

    by_parent : (up : Option ℕ) → life.parent ≡ up → Agree p new bs
    by_parent None e = at (moved parent child old) (is.other (λ same. let none : None ≡ Some parent = sym e ∙ same in absurd (cc none))) after
    by_parent (Some b) e = elim (cases_eq b parent) [
      | inl same ↦ at old (is.same (e ∙ ap Some same)) agree
      | inr other ↦ at (moved parent child old) (is.other (λ same. other (same_Some b parent (sym e ∙ same)))) after
    ]

pub blocked_agree : BlockedAgree
blocked_agree p bs objects o on agree =
    agree-on p objects (change_life o (blocked on) objects) (live-change o (blocked on) objects (λ l. refl)) bs (typed-change p o (blocked on) objects (λ l. refl) agree.typed) agree

pub scheduled_agree : ScheduledAgree
scheduled_agree p bs objects o agree =
    agree-on p objects (change_life o scheduled objects) (live-change o scheduled objects (λ l. refl)) bs (typed-change p o scheduled objects (λ l. refl) agree.typed) agree
