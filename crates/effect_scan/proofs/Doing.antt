-- What natives may do, one member after another.
use Rattle.std.proofs.Common.{◌≡◌, ◌↔◌, ◌⊎◌, inl, inr, ℕ, ◌+◌, ◌<◌, ◌≤◌, List, [], ◌∷◌, ◌++◌, length, get_or, take, Result, Ok, Err, IfOk, refl, sym, ap, ◌∙◌, subst, arith}
use Rattle.std.proofs.lemmas.List.{take_more, take_all}
use Rattle.std.proofs.lemmas.List.Elements.{Contains-append_left, Contains-push, Contains-push_cases}
use Rattle.meta_model.specs.declared.effects.MetaEffects.{MetaEffects}
use Rattle.effect_scan.specs.declared.node.Member.{Member}
use Rattle.effect_scan.specs.declared.node.Member.TheVariants.{Method, Property}
use Rattle.effect_scan.specs.declared.effect.Reach.TheVariants.{Own}
use Rattle.effect_scan.specs.declared.effect.Effect.{Effect}
use Rattle.effect_scan.specs.Effects.{Gathers, IsDoneTo, NativeHas}
use Rattle.effect_scan.proofs.Occurring.{gathers_none, gathers_one, gathers_then}

abbrev own : Member → Effect
own x = record { reach = Own; member = x }

module _ (member : ℕ → Member) where
  done_none : (e : Effect) → ¬ IsDoneTo member [] e
  done_none e h = let inside = h.among.1 in omega arith

  -- one member alone
  abbrev IsOne : ℕ → Effect → Type 0
  IsOne n e = e ≡ own (member n)

  done_more : (xs : List ℕ) (n : ℕ) (e : Effect) → IsDoneTo member (xs ++ n ∷ []) e ↔ (IsDoneTo member xs e ⊎ IsOne n e)
  done_more xs n e = (
    λ h.
        elim (Contains-push_cases xs n h.number h.among) [
          | inl old ↦ inl (record { number = h.number; among = old; is = h.is })
          | inr new ↦ inr (h.is ∙ ap (λ m. own (member m)) (sym new))
        ],
    λ h.
        elim h [
          | inl old ↦ record { number = old.number; among = Contains-append_left xs (n ∷ []) old.number old.among; is = old.is }
          | inr new ↦ record { number = n; among = Contains-push xs n; is = new }
        ],
  )

  pub done_first : (numbers : List ℕ) (xs : List Effect) → Gathers (IsDoneTo member (take 0 numbers)) xs xs
  done_first numbers xs = gathers_none (IsDoneTo member []) xs done_none

  pub done_next : (numbers : List ℕ) (i : ℕ) (first then last : List Effect) → i < length numbers → Gathers (IsDoneTo member (take i numbers)) first then
      → last ≡ then ++ own (member (get_or numbers i 0)) ∷ [] → Gathers (IsDoneTo member (take (i + 1) numbers)) first last
  done_next numbers i first then last inside p eq =
      let n : ℕ = get_or numbers i 0 in
      let more : take (i + 1) numbers ≡ take i numbers ++ n ∷ [] = take_more numbers i 0 inside in
      gathers_then (IsDoneTo member (take i numbers)) (IsOne n) (IsDoneTo member (take (i + 1) numbers)) first then last p
      (gathers_one (IsOne n) (own (member n)) then last eq refl (λ e h. h))
      (λ e. subst (λ (l : List ℕ). IsDoneTo member l e ↔ (IsDoneTo member (take i numbers) e ⊎ IsOne n e)) (sym more) (done_more (take i numbers) n e))

  pub done_all : (numbers : List ℕ) (i : ℕ) (first last : List Effect) → length numbers ≤ i → Gathers (IsDoneTo member (take i numbers)) first last → Gathers (IsDoneTo member numbers) first last
  done_all numbers i first last past p = subst (λ (l : List ℕ). Gathers (IsDoneTo member l) first last) (take_all i numbers past) p

-- the emissions, then the writes
pub done_both : {T E : Type 0} (r : Result T E) (effects : MetaEffects) (emits sets : List ℕ) (first then last : List Effect) → emits ≡ effects.emits → sets ≡ effects.sets
    → Gathers (IsDoneTo (λ m. Method m) emits) first then → IfOk r (λ _. Gathers (IsDoneTo (λ q. Property q) sets) then last) → IfOk r (λ _. Gathers (NativeHas effects) first last)
done_both (Ok v) effects emits sets first then last e f p q =
    gathers_then (IsDoneTo (λ m. Method m) effects.emits) (IsDoneTo (λ q. Property q) effects.sets) (NativeHas effects) first then last
    (subst (λ (l : List ℕ). Gathers (IsDoneTo (λ m. Method m) l) first then) e p)
    (subst (λ (l : List ℕ). Gathers (IsDoneTo (λ q. Property q) l) then last) f q)
    (λ x. (λ h. h, λ h. h))
done_both (Err v) effects emits sets first then last e f p q = tt
