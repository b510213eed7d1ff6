-- What is written down of a change is determined, and one more property is written down.
use Rattle.std.{proofs.Common.{◌≡◌, ℕ, List, [], ◌∷◌, ◌++◌, Option, None, Some, refl, ap, sym, ◌∙◌, subst, append_assoc, length, take}, proofs.Math.Seq.{take-append_seam}, proofs.lemmas.List.{append-nil}, specs.Prelude.{slice_get, IfSome}, specs.List.{AllByRecursion, AllZip}, specs.Option.{option_and_then}, proofs.lemmas.Option.{same_Some}}
use Rattle.basic_types.specs.declared.value.Value.{Value}
use Rattle.meta_model.specs.{declared.object.MetaObject.{MetaObject}, declared.object.MetaProperty.{MetaProperty}, Loaded.{Loaded}}
use Rattle.object_tree.{specs.declared.life.Life.{Life}, specs.declared.object.Object.{Object}, proofs.Changing.{life-of-lives}}
use Rattle.binding_graph.specs.declared.place.Place.{Place}
use Rattle.prop_bindings.specs.{declared.plans.assignment.Assignment.{Assignment}, Changes.{places_in}, Values.{values_in}}
use Rattle.trace_entries.specs.{declared.entry.Entry.{Entry}, declared.entry.Entry.TheVariants.{At}}
use Rattle.machine_state.specs.{declared.changes.telling.Cause.{Cause}, declared.changes.telling.Cause.TheVariants.{Write, Follow}, Objects.{shown}, Telling.{HasValue, IsTold, IsToldWith, IsSetTold, AreTold, IsGroupTold, Assigning, Alone, Grouped, IsAssigningTold, entry_kind_of, others, writes_of}, code.Planned.{AddsFollowers, AddsGroup, AddsSets, AddsTold, Extends}}
use Rattle.trace_entries.specs.declared.entry.EntryKind.TheVariants as entry_kind

-- each set of a group whose written properties are such writes one that is
pub each-set : (Has : Place → Type 0) (sets : List (Option Assignment)) → AllByRecursion Has (places_in (writes_of (Grouped sets))) → AllByRecursion (λ (set : Option Assignment). IfSome set (λ (a : Assignment). Has a.place)) sets
each-set Has [] all = tt
each-set Has (None ∷ sets) all = (tt, each-set Has sets all)
each-set Has (Some a ∷ sets) all = (all.0, each-set Has sets all.1)

-- ---- what was added is taken off again
pub extends-more : (old mid new : List Entry) → Extends old mid → Extends mid new → Extends old new
extends-more old mid new first then =
    record { more = first.more ++ then.more; are = then.are ∙ ap (λ (zs : List Entry). zs ++ then.more) first.are ∙ append_assoc old first.more then.more }

pub taken-off : (old full new : List Entry) (told : ℕ) → told ≡ length old → Extends old full → new ≡ take told full → new ≡ old
taken-off old full new told count extends cut =
    cut
    ∙ ap (λ (n : ℕ). take n full) count
    ∙ ap (take (length old)) extends.are
    ∙ take-append_seam old extends.more

module _ (p : Loaded) (objects : List Object) where
  -- ---- one answer
  one-value : (at : Place) (a b : HasValue p objects at) → (a.object ≡ b.object) × (a.property ≡ b.property) × (a.value ≡ b.value)
  one-value at a b =
      let object : a.object ≡ b.object = same_Some a.object b.object (sym a.lives.is ∙ b.lives.is) in
      let life : a.life ≡ b.life = same_Some a.life b.life (sym a.lives.lives ∙ ap (λ (x : Object). x.life) object ∙ b.lives.lives) in
      let class : a.is_property.class ≡ b.is_property.class = same_Some a.is_property.class b.is_property.class (sym a.is_property.is_class.is ∙ ap (λ (l : Life). slice_get p.classes l.class) life ∙ b.is_property.is_class.is) in
      let property : a.property ≡ b.property = same_Some a.property b.property (sym a.is_property.is ∙ ap (λ (c : MetaObject). slice_get c.properties at.property) class ∙ b.is_property.is) in
      let value : a.value ≡ b.value = same_Some a.value b.value (sym a.is_value ∙ ap (λ (l : Life). slice_get l.values at.property) life ∙ b.is_value) in
      (object, property, value)

  one-line : (d : ℕ) (cause : Cause) (at : Place) (x y : Entry) → IsTold p objects d cause at x → IsTold p objects d cause at y → x ≡ y
  one-line d cause at x y tx ty =
      let same = one-value at tx.has ty.has in
      let line : List ℕ → List ℕ → Value → Entry = λ object property value. At d (entry_kind_of cause object property (shown objects value)) in
      tx.is
      ∙ ap (λ (z : Object). line z.name tx.has.property.name tx.has.value) same.0
      ∙ ap (λ (z : MetaProperty). line ty.has.object.name z.name tx.has.value) same.1
      ∙ ap (λ (z : Value). line ty.has.object.name ty.has.property.name z) same.2
      ∙ sym ty.is

  set-line : (d : ℕ) (set : Option Assignment) (x y : Entry) → IsSetTold p objects d set x → IsSetTold p objects d set y → x ≡ y
  set-line d None x y tx ty = tx ∙ sym ty
  set-line d (Some a) x y tx ty =
      let same = one-value a.place tx.has ty.has in
      let line : List ℕ → List ℕ → Entry = λ object property. At d (entry_kind_of Write object property (shown objects a.value)) in
      tx.is
      ∙ ap (λ (z : Object). line z.name tx.has.property.name) same.0
      ∙ ap (λ (z : MetaProperty). line ty.has.object.name z.name) same.1
      ∙ sym ty.is

  -- lines that are each determined are
  all-lines : {X : Type 0} (Tells : X → Entry → Type 0) → ((q : X) (x y : Entry) → Tells q x → Tells q y → x ≡ y) → (qs : List X) (xs ys : List Entry) → AllZip Tells qs xs → AllZip Tells qs ys → xs ≡ ys
  all-lines Tells one [] [] [] h g = refl
  all-lines Tells one [] [] (y ∷ ys) h g = absurd g
  all-lines Tells one [] (x ∷ xs) ys h g = absurd h
  all-lines Tells one (q ∷ qs) [] ys h g = absurd h
  all-lines Tells one (q ∷ qs) (x ∷ xs) [] h g = absurd g
  all-lines Tells one (q ∷ qs) (x ∷ xs) (y ∷ ys) h g =
      ap (λ (z : Entry). z ∷ xs) (one q x y h.0 g.0)
      ∙ ap (λ (zs : List Entry). y ∷ zs) (all-lines Tells one qs xs ys h.1 g.1)

  other-lines : (d : ℕ) (ps : List Place) (xs ys : List Entry) → AllZip (IsTold p objects d Follow) ps xs → AllZip (IsTold p objects d Follow) ps ys → xs ≡ ys
  other-lines d = all-lines (IsTold p objects d Follow) (one-line d Follow)

  pub told-once : (d : ℕ) (cause : Cause) (first : Place) (changed : List Place) (xs ys : List Entry) → AreTold p objects d cause first changed xs → AreTold p objects d cause first changed ys → xs ≡ ys
  told-once d cause first changed xs ys tx ty =
      tx.are
      ∙ ap (λ (z : Entry). z ∷ tx.lines) (one-line d cause first tx.line ty.line tx.is_told ty.is_told)
      ∙ ap (λ (zs : List Entry). ty.line ∷ zs) (other-lines d (others (first ∷ []) changed) tx.lines ty.lines tx.others_told ty.others_told)
      ∙ sym ty.are

  group-once : (d : ℕ) (sets : List (Option Assignment)) (changed : List Place) (xs ys : List Entry) → IsGroupTold p objects d sets changed xs → IsGroupTold p objects d sets changed ys → xs ≡ ys
  group-once d sets changed xs ys tx ty =
      tx.are
      ∙ ap (λ (zs : List Entry). At d entry_kind.Grouped ∷ zs ++ tx.more) (all-lines (IsSetTold p objects d) (set-line d) sets tx.lines ty.lines tx.sets_told ty.sets_told)
      ∙ ap (λ (zs : List Entry). At d entry_kind.Grouped ∷ ty.lines ++ zs) (other-lines d (others (places_in (writes_of (Grouped sets))) changed) tx.more ty.more tx.others_told ty.others_told)
      ∙ sym ty.are

  -- what a rule writes is written down in one way
  pub assigning-once : (d : ℕ) (what : Assigning) (changed : List Place) (xs ys : List Entry) → IsAssigningTold p objects d what changed xs → IsAssigningTold p objects d what changed ys → xs ≡ ys
  assigning-once d (Alone place value) changed xs ys tx ty = told-once d Write place changed xs ys tx ty
  assigning-once d (Grouped sets) changed xs ys tx ty = group-once d sets changed xs ys tx ty

  -- ---- one more
  zip-more : {X : Type 0} (Tells : X → Entry → Type 0) (qs : List X) (q : X) (xs : List Entry) (x : Entry) → AllZip Tells qs xs → Tells q x → AllZip Tells (qs ++ q ∷ []) (xs ++ x ∷ [])
  zip-more Tells [] q [] x h one = (one, tt)
  zip-more Tells [] q (y ∷ xs) x h one = absurd h
  zip-more Tells (r ∷ qs) q [] x h one = absurd h
  zip-more Tells (r ∷ qs) q (y ∷ xs) x h one = (h.0, zip-more Tells qs q xs x h.1 one)

  -- the lines of one more set
  pub no-sets : (d : ℕ) (old : List Entry) → AddsSets p objects d [] old old
  no-sets d old = record { lines = []; told = tt; are = sym (append-nil old) }

  pub one-set : (d : ℕ) (sets : List (Option Assignment)) (set : Option Assignment) (old mid new : List Entry) (line : Entry) → AddsSets p objects d sets old mid → IsSetTold p objects d set line → new ≡ mid ++ line ∷ [] → AddsSets p objects d (sets ++ set ∷ []) old new
  one-set d sets set old mid new line adds told is = record {
    lines = adds.lines ++ line ∷ [];
    told = zip-more (IsSetTold p objects d) sets set adds.lines line adds.told told;
    are = is ∙ ap (λ (zs : List Entry). zs ++ line ∷ []) adds.are ∙ append_assoc old adds.lines (line ∷ []);
  }

  -- the line of one more property that follows
  pub no-followers : (d : ℕ) (old : List Entry) → AddsFollowers p objects d [] old old
  no-followers d old = record { lines = []; told = tt; are = sym (append-nil old) }

  pub one-follower : (d : ℕ) (ps : List Place) (q : Place) (old mid new : List Entry) (line : Entry) → AddsFollowers p objects d ps old mid → IsTold p objects d Follow q line → new ≡ mid ++ line ∷ [] → AddsFollowers p objects d (ps ++ q ∷ []) old new
  one-follower d ps q old mid new line adds told is = record {
    lines = adds.lines ++ line ∷ [];
    told = zip-more (IsTold p objects d Follow) ps q adds.lines line adds.told told;
    are = is ∙ ap (λ (zs : List Entry). zs ++ line ∷ []) adds.are ∙ append_assoc old adds.lines (line ∷ []);
  }

  pub has-stored : (at : Place) (has : HasValue p objects at) → values_in objects at ≡ Some has.value
  has-stored at has = ap (option_and_then (λ (m : Life). slice_get m.values at.property)) (life-of-lives has.lives) ∙ has.is_value

  -- a property's line with its value
  pub told-now : (d : ℕ) (cause : Cause) (at : Place) (v : Value) (entry : Entry) → values_in objects at ≡ Some v → IsToldWith p objects d cause at v entry → IsTold p objects d cause at entry
  told-now d cause at v entry is told =
      let same : v ≡ told.has.value = same_Some v told.has.value (sym is ∙ has-stored at told.has) in
      record {
        has = told.has;
        is = told.is ∙ ap (λ (x : Value). At d (entry_kind_of cause told.has.object.name told.has.property.name (shown objects x))) same;
      }

  -- the line of a property that is written or bound, and those of the others
  pub change-told : (d : ℕ) (cause : Cause) (first : Place) (changed followers : List Place) (old mid new : List Entry) (line : Entry) → IsTold p objects d cause first line → mid ≡ old ++ line ∷ [] → followers ≡ others (first ∷ []) changed → AddsFollowers p objects d followers mid new → AddsTold p objects d cause first changed old new
  change-told d cause first changed followers old mid new line told own is follow =
      record {
        lines = line ∷ follow.lines;
        told = record {
          line = line;
          lines = follow.lines;
          is_told = told;
          others_told = subst (λ (qs : List Place). AllZip (IsTold p objects d Follow) qs follow.lines) is follow.told;
          are = refl;
        };
        are = follow.are ∙ ap (λ (zs : List Entry). zs ++ follow.lines) own ∙ append_assoc old (line ∷ []) follow.lines;
      }

  -- a group's own line, those of its sets and those of the others
  pub group-told : (d : ℕ) (sets : List (Option Assignment)) (followers changed : List Place) (old own with_sets whole : List Entry) → own ≡ old ++ At d entry_kind.Grouped ∷ [] → AddsSets p objects d sets own with_sets → followers ≡ others (places_in (writes_of (Grouped sets))) changed → AddsFollowers p objects d followers with_sets whole → AddsGroup p objects d sets changed old whole
  group-told d sets followers changed old own with_sets whole first adds is follow =
      let group : Entry = At d entry_kind.Grouped in
      record {
        lines = group ∷ adds.lines ++ follow.lines;
        told = record {
          lines = adds.lines;
          more = follow.lines;
          sets_told = adds.told;
          others_told = subst (λ (qs : List Place). AllZip (IsTold p objects d Follow) qs follow.lines) is follow.told;
          are = refl;
        };
        are =
            follow.are
            ∙ ap (λ (zs : List Entry). zs ++ follow.lines) (adds.are ∙ ap (λ (zs : List Entry). zs ++ adds.lines) first ∙ append_assoc old (group ∷ []) adds.lines)
            ∙ append_assoc old (group ∷ adds.lines) follow.lines;
      }
