-- Lists with at most one binding of each property, and fewer bindings.
use Rattle.std.proofs.Common.{◌≡◌, Bool, true, false, cond, List, [], ◌∷◌, ◌++◌, filter, inl, inr, Some, None, refl, ap, sym, ◌∙◌, subst}
use Rattle.std.proofs.lemmas.Bool.{false≢true, cases_Bool}
use Rattle.binding_graph.specs.declared.place.Place.{Place}
use Rattle.binding_graph.specs.declared.binding.Binding.{Binding}
use Rattle.binding_graph.specs.Places.{same_place}
use Rattle.binding_graph.specs.Bindings.{binding_at, AreApart, without, without_all, replaced, Loop}
use Rattle.binding_graph.proofs.Places.{decide_place, same_place-refl, different}
use Rattle.binding_graph.proofs.Replaced.{push-none, without-at}
use Rattle.binding_graph.proofs.Acyclic.{chain-more}

-- what is unbound stays so where there are fewer bindings
pub none-fewer : (keep : Binding → Bool) (bs : List Binding) (p : Place) → binding_at bs p ≡ None → binding_at (filter keep bs) p ≡ None
none-fewer keep [] p none = refl
none-fewer keep (b ∷ bs) p none = elim (cases_Bool (same_place b.target p)) [
  | inl t ↦ let some : binding_at (b ∷ bs) p ≡ Some b = ap (λ (x : Bool). cond x (Some b) (binding_at bs p)) t in absurd (cc)
  | inr f ↦
      let rest : binding_at bs p ≡ None = sym (ap (λ (x : Bool). cond x (Some b) (binding_at bs p)) f) ∙ none in
      elim (cases_Bool (keep b)) [
        | inl k ↦ ap (λ (x : Bool). binding_at (cond x (b ∷ filter keep bs) (filter keep bs)) p) k ∙ ap (λ (x : Bool). cond x (Some b) (binding_at (filter keep bs) p)) f ∙ none-fewer keep bs p rest
        | inr k ↦ ap (λ (x : Bool). binding_at (cond x (b ∷ filter keep bs) (filter keep bs)) p) k ∙ none-fewer keep bs p rest
      ]
]

-- .. and what is bound is bound as it was
pub some-fewer : (keep : Binding → Bool) (bs : List Binding) → AreApart bs → (p : Place) (z : Binding) → binding_at (filter keep bs) p ≡ Some z → binding_at bs p ≡ Some z
some-fewer keep [] apart p z some = some
some-fewer keep (b ∷ bs) apart p z some = elim (cases_Bool (keep b)) [
  | inl k ↦
      let here : cond (same_place b.target p) (Some b) (binding_at (filter keep bs) p) ≡ Some z = sym (ap (λ (x : Bool). binding_at (cond x (b ∷ filter keep bs) (filter keep bs)) p) k) ∙ some in
      elim (cases_Bool (same_place b.target p)) [
        | inl t ↦ ap (λ (x : Bool). cond x (Some b) (binding_at bs p)) t ∙ sym (ap (λ (x : Bool). cond x (Some b) (binding_at (filter keep bs) p)) t) ∙ here
        | inr f ↦ ap (λ (x : Bool). cond x (Some b) (binding_at bs p)) f ∙ some-fewer keep bs apart.1 p z (sym (ap (λ (x : Bool). cond x (Some b) (binding_at (filter keep bs) p)) f) ∙ here)
      ]
  | inr k ↦
      let rest : binding_at (filter keep bs) p ≡ Some z = sym (ap (λ (x : Bool). binding_at (cond x (b ∷ filter keep bs) (filter keep bs)) p) k) ∙ some in
      let old = some-fewer keep bs apart.1 p z rest in
      elim (decide_place b.target p) [
        | inl e ↦ let gone : binding_at bs p ≡ None = subst (λ (q : Place). binding_at bs q ≡ None) e apart.0 in absurd (cc)
        | inr f ↦ ap (λ (x : Bool). cond x (Some b) (binding_at bs p)) f ∙ old
      ]
]

pub apart-fewer : (keep : Binding → Bool) (bs : List Binding) → AreApart bs → AreApart (filter keep bs)
apart-fewer keep [] apart = tt
apart-fewer keep (b ∷ bs) apart = elim (cases_Bool (keep b)) [
  | inl k ↦ subst AreApart (sym (ap (λ (x : Bool). cond x (b ∷ filter keep bs) (filter keep bs)) k)) (none-fewer keep bs b.target apart.0, apart-fewer keep bs apart.1)
  | inr k ↦ subst AreApart (sym (ap (λ (x : Bool). cond x (b ∷ filter keep bs) (filter keep bs)) k)) (apart-fewer keep bs apart.1)
]

-- one more binding, of what isn't bound yet
pub apart-more : (bs : List Binding) (b : Binding) → AreApart bs → binding_at bs b.target ≡ None → AreApart (bs ++ b ∷ [])
apart-more [] b apart none = (refl, tt)
apart-more (x ∷ xs) b apart none = elim (decide_place x.target b.target) [
  | inl e ↦ let some : binding_at (x ∷ xs) b.target ≡ Some x = ap (λ (y : Bool). cond y (Some x) (binding_at xs b.target)) (subst (λ (q : Place). same_place x.target q ≡ true) e (same_place-refl x.target)) in absurd (cc)
  | inr f ↦
      let rest : binding_at xs b.target ≡ None = sym (ap (λ (y : Bool). cond y (Some x) (binding_at xs b.target)) f) ∙ none in
      let other : same_place b.target x.target ≡ false = different b.target x.target (λ e. false≢true (sym f ∙ subst (λ (q : Place). same_place x.target q ≡ true) (sym e) (same_place-refl x.target))) in
      (push-none xs b x.target apart.0 ∙ ap (λ (y : Bool). cond y (Some b) None) other, apart-more xs b apart.1 rest)
]

pub apart-replaced : (bs : List Binding) (b : Binding) → AreApart bs → AreApart (replaced bs b)
apart-replaced bs b apart = apart-more (without b.target bs) b (apart-fewer _ bs apart) (without-at b.target bs)

-- fewer bindings close no chain
pub acyclic-fewer : (keep : Binding → Bool) (bs : List Binding) → AreApart bs → (¬ Loop (binding_at bs)) → ¬ Loop (binding_at (filter keep bs))
acyclic-fewer keep bs apart acyclic loop = acyclic (loop.0, chain-more (binding_at (filter keep bs)) (binding_at bs) (some-fewer keep bs apart) loop.1)

-- ---- without the bindings of several properties
pub apart-all : (ps : List Place) (bs : List Binding) → AreApart bs → AreApart (without_all ps bs)
apart-all [] bs a = a
apart-all (p ∷ ps) bs a = apart-all ps (without p bs) (apart-fewer _ bs a)

pub acyclic-all : (ps : List Place) (bs : List Binding) → AreApart bs → (¬ Loop (binding_at bs)) → ¬ Loop (binding_at (without_all ps bs))
acyclic-all [] bs a acyclic = acyclic
acyclic-all (p ∷ ps) bs a acyclic = acyclic-all ps (without p bs) (apart-fewer _ bs a) (acyclic-fewer _ bs a acyclic)
