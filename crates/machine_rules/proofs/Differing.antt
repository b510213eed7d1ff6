-- Objects of which nothing differs but values, and objects of which one is scheduled.
use Rattle.std.proofs.Common.{◌≡◌, inl, ℕ, List, [], length, Option, None, Some, refl, sym, ap, ◌∙◌, arith}
use Rattle.std.specs.Option.{option_map}
use Rattle.std.proofs.lemmas.List.{length-map}
use Rattle.basic_types.specs.declared.value.Value.TheVariants.{Ref}
use Rattle.meta_model.specs.Loaded.{Loaded}
use Rattle.object_tree.specs.declared.life.Life.{Life}
use Rattle.object_tree.specs.declared.object.Object.{Object}
use Rattle.object_tree.specs.Objects.{life_of, class_of, home_of, change_life, scheduled}
use Rattle.object_tree.specs.Seen.{seen_reference}
use Rattle.binding_graph.specs.declared.binding.Binding.{Binding}
use Rattle.prop_bindings.specs.Changes.{valueless, DifferInValues}
use Rattle.prop_bindings.specs.Fits.{Agree}
use Rattle.prop_bindings.proofs.Alive.{lives-alike, seen-same}
use Rattle.prop_bindings.proofs.Agreeing.{scheduled_agree}
use Rattle.machine_rules.specs.There.{NoneDied}
use Rattle.machine_rules.specs.code.Keeps.{StayThere}

-- ---- nothing differs but values

abbrev emptied : Life → Life
emptied l = record l { values = [] }

-- a part of a life without its values
emptied-part : {X : Type 0} (part : Life → X) → ((l : Life) → part (emptied l) ≡ part l) → (there : Option Life) → option_map part (option_map emptied there) ≡ option_map part there
emptied-part part same None = refl
emptied-part part same (Some l) = ap Some (same l)

module _ (old new : List Object) (differ : DifferInValues old new) where
  differ-part : {X : Type 0} (part : Life → X) → ((l : Life) → part (emptied l) ≡ part l) → (o : ℕ) → option_map part (life_of new o) ≡ option_map part (life_of old o)
  differ-part part same o =
      sym (emptied-part part same (life_of new o)) ∙ ap (option_map part) (lives-alike old new differ o) ∙ emptied-part part same (life_of old o)

  pub differ-class : (o : ℕ) → class_of new o ≡ class_of old o
  differ-class o = differ-part (λ (l : Life). l.class) (λ l. refl) o

  -- objects live where they lived
  pub differ-home : (o : ℕ) → home_of new o ≡ home_of old o
  differ-home o = differ-part (λ (l : Life). l.home) (λ l. refl) o

  differ-seen : (o : ℕ) → seen_reference new (Some o) ≡ seen_reference old (Some o)
  differ-seen o =
      let both : Ref (seen_reference new (Some o)) ≡ Ref (seen_reference old (Some o)) = seen-same old new differ (Ref (Some o)) in
      cc both

  differ-length : length new ≡ length old
  differ-length = sym (length-map new valueless) ∙ ap (λ (xs : List Object). length xs) differ ∙ length-map old valueless

  -- they stay of their classes
  pub differ-stay : StayThere old new
  differ-stay = record { living = λ o class is. inl (differ-class o ∙ is); dead = λ o is. differ-seen o ∙ is; created = omega (arith, differ-length) }

  -- and none dies
  pub differ-spared : NoneDied old new
  differ-spared o gone = sym (differ-seen o) ∙ gone

-- ---- one is scheduled

-- properties and bindings go on to agree
pub scheduled-agree : (p : Loaded) (objects : List Object) (bindings : List Binding) (x : ℕ) → Agree p objects bindings → Agree p (change_life x scheduled objects) bindings
scheduled-agree p objects bindings x agree = scheduled_agree p bindings objects x agree
