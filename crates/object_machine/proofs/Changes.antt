-- What stays as it was where an object gets another parent, or is blocked.
use Rattle.std.proofs.Common.{◌≡◌, ℕ, Bool, List, length, Option, None, Some, refl, sym, ap, ◌∙◌, subst, inl, inr}
use Rattle.meta_model.specs.Loaded.{Loaded}
use Rattle.binding_graph.specs.declared.binding.Binding.{Binding}
use Rattle.prop_bindings.specs.Fits.{Agree}
use Rattle.prop_bindings.proofs.Agreeing.{adopted_agree, blocked_agree}
use Rattle.std.proofs.lemmas.Bool.{cases_eq}
use Rattle.object_tree.specs.declared.life.Life.{Life}
use Rattle.object_tree.specs.declared.object.Object.{Object}
use Rattle.object_tree.specs.Adopting.{IsAdopted}
use Rattle.object_tree.specs.Family.{parent_of, joined_by, leaves, left_by, put_under, moved}
use Rattle.object_tree.specs.Objects.{blocked, change, change_life, with_life}
use Rattle.object_tree.proofs.Changing.{length-change}

-- the child moved, or nothing changed
pub adopted-by : {a c : ℕ} {y : Life} {old new : List Object} (P : List Object → Type 0) → P old → P (moved a c old) → IsAdopted a c y old new → P new
adopted-by {a} {c} {y} {old} {new} P before after is = by_parent y.parent refl
  where
    by_parent : (up : Option ℕ) → y.parent ≡ up → P new
    by_parent None e = subst P (sym (is.other (λ same. let no : None ≡ Some a = sym e ∙ same in absurd (cc no)))) after
    by_parent (Some b) e =
        elim (cases_eq b a) [
          | inl same ↦ subst P (sym (is.same (e ∙ ap Some same))) before
          | inr other ↦ subst P (sym (is.other (λ same. let one : Some b ≡ Some a = sym e ∙ same in other (cc one)))) after
        ]

-- no object comes or goes
length-leaves : (from : Option ℕ) (child : ℕ) (objects : List Object) → length (leaves from child objects) ≡ length objects
length-leaves None child objects = refl
length-leaves (Some parent) child objects = length-change parent (left_by child) objects

pub length-moved : (a c : ℕ) (objects : List Object) → length (moved a c objects) ≡ length objects
length-moved a c objects =
    let under = change a (joined_by c) objects in
    length-change c (with_life (put_under a)) (leaves (parent_of objects c) c under) ∙ length-leaves (parent_of objects c) c under ∙ length-change a (joined_by c) objects

-- ---- properties and bindings go on to agree

pub agree-adopted : {p : Loaded} {a c : ℕ} {y : Life} {old new : List Object} {bindings : List Binding} → Agree p old bindings → IsAdopted a c y old new → Agree p new bindings
agree-adopted {p} {a} {c} {y} {old} {new} {bindings} agree is =
    adopted_agree p bindings old new a c y agree is

pub agree-blocked : {p : Loaded} {objects : List Object} {bindings : List Binding} (o : ℕ) (on : Bool) → Agree p objects bindings → Agree p (change_life o (blocked on) objects) bindings
agree-blocked {p} {objects} {bindings} o on agree =
    blocked_agree p bindings objects o on agree
