-- Judgements have at most one answer.
use Rattle.std.proofs.Common.{◌≡◌, ℕ, List, [], ◌∷◌, Option, None, Some, slice_get, length, refl, sym, ap, ◌∙◌, subst, inl, inr}
use Rattle.std.proofs.lemmas.Bool.{cases_eq}
use Rattle.meta_model.specs.declared.object.MetaMethod.{MetaMethod}
use Rattle.meta_model.specs.declared.object.MetaObject.{MetaObject}
use Rattle.meta_model.specs.declared.object.MetaProperty.{MetaProperty}
use Rattle.meta_model.specs.Loaded.{Loaded}
use Rattle.meta_model.specs.Members.{IsMethod, IsProperty}
use Rattle.meta_model.specs.Sound.{IsSound}
use Rattle.object_tree.specs.declared.life.Life.{Life}
use Rattle.object_tree.specs.declared.object.Object.{Object}
use Rattle.object_tree.specs.Adopting.{IsAdopted}
use Rattle.script_lang.specs.declared.event.Input.{Input}
use Rattle.script_lang.specs.declared.event.Input.TheVariants as input
use Rattle.machine_rules.proofs.Fields.{class-unique}
use Rattle.machine_rules.proofs.OneAnswer.{one-find, one-gives, one-then, numbered-is}
use Rattle.machine_rules.specs.Judgement.{Numbered, HasOneAnswer}
use Rattle.object_machine.specs.Events.{living, all_living, value, values}

-- ---- objects and values

one-life : {found : Option Life} (a b : Life) → found ≡ Some a → found ≡ Some b → a ≡ b
one-life a b f g = let both : Some a ≡ Some b = sym f ∙ g in cc both

pub one-living : (objects : List Object) (name : List ℕ) → HasOneAnswer (living objects name)
one-living objects name = one-then (one-find (λ a b f g. g.only a f.named)) (λ o. one-then (one-find one-life) (λ l. one-gives _))

pub one-all-living : (objects : List Object) (names : List (List ℕ)) → HasOneAnswer (all_living objects names)
one-all-living objects [] = one-gives []
one-all-living objects (name ∷ names) =
    one-then (one-then (one-living objects name) (λ o. one-gives _)) (λ o. one-then (one-all-living objects names) (λ os. one-gives _))

pub one-value : (objects : List Object) (i : Input) → HasOneAnswer (value objects i)
one-value objects (input.Literal l) = one-gives _
one-value objects (input.Object name) = one-then (one-living objects name) (λ o. one-gives _)

pub one-values : (objects : List Object) (inputs : List Input) → HasOneAnswer (values objects inputs)
one-values objects [] = one-gives []
one-values objects (i ∷ inputs) = one-then (one-value objects i) (λ v. one-then (one-values objects inputs) (λ vs. one-gives _))

-- ---- members of a class

module _ {p : Loaded} (sound : IsSound p) {class : ℕ} where
  -- two methods of one name and number of parameters are the same
  pub one-method : (a b : Numbered MetaMethod) → IsMethod p class a.number a.it → IsMethod p class b.number b.it → a.it.sig.name ≡ b.it.sig.name → length a.it.sig.types ≡ length b.it.sig.types → a ≡ b
  one-method a b f g named counted =
      let At : MetaObject → Type 0 = λ k. slice_get k.methods b.number ≡ Some b.it in
      let there : slice_get f.class.methods b.number ≡ Some b.it = subst At (class-unique g.is_class f.is_class) g.is in
      let same : a.number ≡ b.number = (sound.classes class f.class f.is_class).distinct_methods a.number b.number a.it b.it f.is there named counted in
      let it : Some a.it ≡ Some b.it = sym f.is ∙ ap (λ (n : ℕ). slice_get f.class.methods n) same ∙ there in
      numbered-is same (cc it)

  -- .. and two properties of one name
  pub one-property : (a b : Numbered MetaProperty) → IsProperty p class a.number a.it → IsProperty p class b.number b.it → a.it.name ≡ b.it.name → a ≡ b
  one-property a b f g named =
      let At : MetaObject → Type 0 = λ k. slice_get k.properties b.number ≡ Some b.it in
      let there : slice_get f.class.properties b.number ≡ Some b.it = subst At (class-unique g.is_class f.is_class) g.is in
      let same : a.number ≡ b.number = (sound.classes class f.class f.is_class).distinct_properties a.number b.number a.it b.it f.is there named in
      let it : Some a.it ≡ Some b.it = sym f.is ∙ ap (λ (n : ℕ). slice_get f.class.properties n) same ∙ there in
      numbered-is same (cc it)

-- ---- parents

pub one-adopted : {a c : ℕ} {y : Life} {old new other : List Object} → IsAdopted a c y old new → IsAdopted a c y old other → new ≡ other
one-adopted {a} {y = y} {new = new} {other = other} f g = by_parent y.parent refl
  where
    by_parent : (up : Option ℕ) → y.parent ≡ up → new ≡ other
    by_parent None e =
        let no : y.parent ≡ Some a → ⊥ = λ same. let x : None ≡ Some a = sym e ∙ same in absurd (cc x) in
        f.other no ∙ sym (g.other no)
    by_parent (Some b) e =
        elim (cases_eq b a) [
          | inl same ↦ let is : y.parent ≡ Some a = e ∙ ap (λ (n : ℕ). Some n) same in f.same is ∙ sym (g.same is)
          | inr differs ↦
              let no : y.parent ≡ Some a → ⊥ = λ same. let x : Some b ≡ Some a = sym e ∙ same in differs (cc x) in
              f.other no ∙ sym (g.other no)
        ]
