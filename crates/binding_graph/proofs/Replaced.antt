-- The installed bindings as a function from properties.
use Rattle.std.proofs.Common.{◌≡◌, Bool, true, false, not, cond, List, [], ◌∷◌, ◌++◌, inl, inr, Option, Some, None, refl, ap, sym, ◌∙◌, subst}
use Rattle.std.proofs.lemmas.Bool.{cases_Bool}
use Rattle.std.proofs.Math.Path.{fun_ext}
use Rattle.binding_graph.specs.declared.place.Place.{Place}
use Rattle.binding_graph.specs.declared.binding.Binding.{Binding}
use Rattle.binding_graph.specs.Places.{same_place}
use Rattle.binding_graph.specs.Bindings.{binding_at, without, Loop}
use Rattle.binding_graph.specs.code.Orders.{bound}
use Rattle.binding_graph.proofs.Places.{decide_place, same_place-true, same_place-refl}
use Rattle.binding_graph.proofs.Passes.{none_or_some}
use Rattle.binding_graph.proofs.Walks.{bound-other}

pub without-at : (p : Place) (bs : List Binding) → binding_at (without p bs) p ≡ None
without-at p [] = refl
without-at p (b ∷ bs) = elim (cases_Bool (same_place b.target p)) [
  | inl t ↦ ap (λ (x : Bool). binding_at (cond (not x) (b ∷ without p bs) (without p bs)) p) t ∙ without-at p bs
  | inr f ↦ ap (λ (x : Bool). binding_at (cond (not x) (b ∷ without p bs) (without p bs)) p) f ∙ ap (λ (x : Bool). cond x (Some b) (binding_at (without p bs) p)) f ∙ without-at p bs
]

pub without-other : (p : Place) (bs : List Binding) (q : Place) → same_place p q ≡ false → binding_at (without p bs) q ≡ binding_at bs q
without-other p [] q h = refl
without-other p (b ∷ bs) q h = elim (cases_Bool (same_place b.target p)) [
  | inl t ↦
      let away : same_place b.target q ≡ false = subst (λ (y : Place). same_place y q ≡ false) (sym (same_place-true b.target p t)) h in
      ap (λ (x : Bool). binding_at (cond (not x) (b ∷ without p bs) (without p bs)) q) t ∙ without-other p bs q h ∙ sym (ap (λ (x : Bool). cond x (Some b) (binding_at bs q)) away)
  | inr f ↦
      ap (λ (x : Bool). binding_at (cond (not x) (b ∷ without p bs) (without p bs)) q) f ∙ ap (λ (o : Option Binding). cond (same_place b.target q) (Some b) o) (without-other p bs q h)
]

pub without-fewer : (p : Place) (bs : List Binding) (q : Place) (b : Binding) → binding_at (without p bs) q ≡ Some b → binding_at bs q ≡ Some b
without-fewer p bs q b g = elim (decide_place p q) [
  | inl e ↦ let none : binding_at (without p bs) q ≡ None = subst (λ (y : Place). binding_at (without p bs) y ≡ None) e (without-at p bs) in cc
  | inr f ↦ sym (without-other p bs q f) ∙ g
]

pub push-none : (bs : List Binding) (b : Binding) (q : Place) → binding_at bs q ≡ None → binding_at (bs ++ b ∷ []) q ≡ cond (same_place b.target q) (Some b) None
push-none [] b q h = refl
push-none (x ∷ bs) b q h = elim (cases_Bool (same_place x.target q)) [
  | inl t ↦ let some : cond (same_place x.target q) (Some x) (binding_at bs q) ≡ Some x = ap (λ (y : Bool). cond y (Some x) (binding_at bs q)) t in cc
  | inr f ↦ ap (λ (y : Bool). cond y (Some x) (binding_at (bs ++ b ∷ []) q)) f ∙ push-none bs b q (sym (ap (λ (y : Bool). cond y (Some x) (binding_at bs q)) f) ∙ h)
]

push-some : (bs : List Binding) (b : Binding) (q : Place) (z : Binding) → binding_at bs q ≡ Some z → binding_at (bs ++ b ∷ []) q ≡ Some z
push-some [] b q z h = absurd (cc)
push-some (x ∷ bs) b q z h = elim (cases_Bool (same_place x.target q)) [
  | inl t ↦ ap (λ (y : Bool). cond y (Some x) (binding_at (bs ++ b ∷ []) q)) t ∙ sym (ap (λ (y : Bool). cond y (Some x) (binding_at bs q)) t) ∙ h
  | inr f ↦ ap (λ (y : Bool). cond y (Some x) (binding_at (bs ++ b ∷ []) q)) f ∙ push-some bs b q z (sym (ap (λ (y : Bool). cond y (Some x) (binding_at bs q)) f) ∙ h)
]

-- installing a binding gives its target this expression and leaves the others
pub installed-is : (bs : List Binding) (b : Binding) → binding_at (without b.target bs ++ b ∷ []) ≡ bound (binding_at bs) b.target b
installed-is bs b = fun_ext (λ q. elim (decide_place b.target q) [
  | inl e ↦ push-none (without b.target bs) b q (subst (λ (y : Place). binding_at (without b.target bs) y ≡ None) e (without-at b.target bs))
      ∙ ap (λ (x : Bool). cond x (Some b) None) (hit b q e) ∙ sym (ap (λ (x : Bool). cond x (Some b) (binding_at bs q)) (hit b q e))
  | inr f ↦ elim (none_or_some (binding_at bs q)) [
    | inl n ↦ push-none (without b.target bs) b q (without-other b.target bs q f ∙ n)
        ∙ ap (λ (x : Bool). cond x (Some b) None) f ∙ sym n ∙ sym (bound-other (binding_at bs) b.target b q f)
    | inr s ↦ push-some (without b.target bs) b q s.0 (without-other b.target bs q f ∙ s.1)
        ∙ sym s.1 ∙ sym (bound-other (binding_at bs) b.target b q f)
  ]
])
  where
    hit : (b : Binding) (q : Place) → b.target ≡ q → same_place b.target q ≡ true
    hit b q e = subst (λ (y : Place). same_place b.target y ≡ true) e (same_place-refl b.target)

pub loop-installed : (bs : List Binding) (b : Binding) → Loop (bound (binding_at bs) b.target b) → Loop (binding_at (without b.target bs ++ b ∷ []))
loop-installed bs b l = subst (λ (F : Place → Option Binding). Loop F) (sym (installed-is bs b)) l
