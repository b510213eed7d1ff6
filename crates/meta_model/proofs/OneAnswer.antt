-- What a sound program has one of, and where its bases lead.
use Rattle.std.proofs.Common.{◌≡◌, ℕ, ◌<◌, List, length, slice_get, Option, Some, None, MatchOption, refl, sym, ap, subst, ◌∙◌}
use Rattle.std.specs.Prelude.{IfSome}
use Rattle.std.specs.Option.{option_and_then}
use Rattle.std.proofs.lemmas.Option.{none-some, same_Some}
use Rattle.meta_model.specs.declared.object.MetaMethod.{MetaMethod}
use Rattle.meta_model.specs.declared.object.MetaObject.{MetaObject}
use Rattle.meta_model.specs.Loaded.{Loaded}
use Rattle.meta_model.specs.Members.{IsClassNamed, IsMethod, IsMethodNamed, IsPropertyNamed, base_of, Below, same, under}
use Rattle.meta_model.specs.Sites.{IsSiteNamed}
use Rattle.meta_model.specs.Sound.{IsSound, IsSoundClass}

pub only_of : (N : Type 0) (Q : ℕ → Type 0) → ((i j : ℕ) → Q i → Q j → j ≡ i) → (r : Option ℕ) → MatchOption r N Q → IfSome r (λ i. (j : ℕ) → Q j → j ≡ i)
only_of N Q one None h = tt
only_of N Q one (Some i) h = λ j k. one i j h k

module _ (p : Loaded) (is : IsSound p) where
  -- two methods of a class that are alike are at one place
  one_method : (c i j : ℕ) (a b : MetaMethod) → IsMethod p c i a → IsMethod p c j b → a.sig.name ≡ b.sig.name → length a.sig.types ≡ length b.sig.types → j ≡ i
  one_method c i j a b h k name count =
      let class : k.class ≡ h.class = same_Some _ _ (sym k.is_class.is ∙ h.is_class.is) in
      let at : slice_get h.class.methods j ≡ Some b = ap (λ (o : MetaObject). slice_get o.methods j) (sym class) ∙ k.is in
      sym ((is.classes c h.class h.is_class).distinct_methods i j a b h.is at name count)

  pub one_named : (c : ℕ) (name : List ℕ) (count i j : ℕ) → IsMethodNamed p c name count i → IsMethodNamed p c name count j → j ≡ i
  one_named c name count i j h k =
      one_method c i j h.method k.method h.is k.is (h.named ∙ sym k.named) (h.counted ∙ sym k.counted)

  pub one_property : (c : ℕ) (name : List ℕ) (i j : ℕ) → IsPropertyNamed p c name i → IsPropertyNamed p c name j → j ≡ i
  one_property c name i j h k =
      let class : k.class ≡ h.class = same_Some _ _ (sym k.is_class.is ∙ h.is_class.is) in
      let at : slice_get h.class.properties j ≡ Some k.property = ap (λ (o : MetaObject). slice_get o.properties j) (sym class) ∙ k.is in
      sym ((is.classes c h.class h.is_class).distinct_properties i j h.property k.property h.is at (h.named ∙ sym k.named))

  pub one_class : (name : List ℕ) (i j : ℕ) → IsClassNamed p name i → IsClassNamed p name j → j ≡ i
  one_class name i j h k = sym (is.distinct_classes i j h.class k.class h.is.is k.is.is (h.named ∙ sym k.named))

  pub one_site : (name : List ℕ) (i j : ℕ) → IsSiteNamed p name i → IsSiteNamed p name j → j ≡ i
  one_site name i j h k = sym (is.distinct_sites i j h.is.item k.is.item h.is.is k.is.is (h.is.has ∙ sym k.is.has))

module _ (p : Loaded) where
  -- a class that isn't the other is below it where its base is
  pub below_base : (c b d : ℕ) → base_of p c ≡ Some b → (¬ (c ≡ d)) → Below p c d → Below p b d
  below_base c b d base differs (same is) = absurd (differs refl)
  below_base c b d base differs (under e rest) = subst (λ x. Below p x d) (same_Some _ _ (sym e ∙ base)) rest

  pub below_none : (c d : ℕ) → base_of p c ≡ None → (¬ (c ≡ d)) → ¬ Below p c d
  below_none c d none differs (same is) = differs refl
  below_none c d none differs (under e rest) = none-some _ (sym none ∙ e)

  -- a class that is there is below itself, and a number of no class is below none
  pub below_itself : (c : ℕ) {class : MetaObject} → slice_get p.classes c ≡ Some class → Below p c c
  below_itself c there = same (record { is = there })

  pub below_absent : (c d : ℕ) → slice_get p.classes c ≡ None → ¬ Below p c d
  below_absent c d none (same is) = none-some _ (sym none ∙ is.is)
  below_absent c d none (under e rest) = none-some _ (sym (ap (option_and_then (λ (class : MetaObject). class.base)) none) ∙ e)

  -- a base has a smaller number
  pub base_smaller : (c : ℕ) (class : MetaObject) → IsSoundClass p c class → (base : Option ℕ) → class.base ≡ base → IfSome base (λ b. b < c)
  base_smaller c class sound None e = tt
  base_smaller c class sound (Some b) e = (sound.under b e).smaller
