-- The class that a path is declared to lead to.
use Rattle.std.proofs.Common.{◌≡◌, ℕ, suc, ◌-◌, false, List, [], ◌∷◌, length, Some, slice_get, refl, sym, ap, ◌∙◌, arith}
use Rattle.std.proofs.lemmas.Option.{same_Some}
use Rattle.meta_model.specs.declared.object.MetaPath.{MetaPath}
use Rattle.meta_model.specs.declared.object.MetaRoot.{MetaRoot}
use Rattle.meta_model.specs.declared.object.Step.{Step as PathStep}
use Rattle.meta_model.specs.declared.object.ValueType.{ValueType}
use Rattle.meta_model.specs.declared.object.ValueType.TheVariants as type
use Rattle.meta_model.specs.Loaded.{Loaded}
use Rattle.meta_model.specs.Sound.{HasRoot, this_has, parameter_has, Leads, here, on, LeadsToClass}
use Rattle.type_check.specs.Bodies.{kind_of_root, kind_after, kind_of_path}

module _ (me : ℕ) (types : List ValueType) where
  root-kind : (root : MetaRoot) (T : ValueType) → HasRoot me types root T → kind_of_root me types root ≡ Some T
  root-kind root T this_has = refl
  root-kind root T (parameter_has at) = at

  last-kind : {p : Loaded} {T U : ValueType} (s : PathStep) (steps : List PathStep) → Leads p T (s ∷ steps) U → (last : PathStep) × (slice_get (s ∷ steps) (length steps) ≡ Some last) × (last.kind ≡ U)
  last-kind s [] (on is e here) = (s, refl, refl)
  last-kind s (t ∷ ts) (on is e rest) = last-kind t ts rest

  steps-kind : {p : Loaded} (root : MetaRoot) (steps : List PathStep) (T U : ValueType) → HasRoot me types root T → Leads p T steps U → kind_after me types root (slice_get steps (length steps - 1)) ≡ Some U
  steps-kind root [] T U has here = root-kind root T has
  steps-kind root (s ∷ steps) T U has leads =
      let last = last-kind s steps leads in
      let at : slice_get (s ∷ steps) (suc (length steps) - 1) ≡ Some last.0 = ap (slice_get (s ∷ steps)) (omega arith) ∙ last.1 in
      ap (kind_after me types root) at ∙ ap (λ (w : ValueType). Some w) last.2

  -- .. is one
  pub same-class : {p : Loaded} (path : MetaPath) (c d : ℕ) → LeadsToClass p me types path c → kind_of_path me types path ≡ Some (type.Reference d false) → c ≡ d
  same-class path c d leads at =
      let mine = steps-kind path.root path.steps leads.leads.root_type (type.Reference c leads.constant) leads.leads.root leads.leads.steps in
      let both : type.Reference c leads.constant ≡ type.Reference d false = same_Some _ _ (sym mine ∙ at) in
      cc both
