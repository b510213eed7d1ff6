-- Every class is below `QObject` and begins with its members.
use Rattle.std.proofs.Common.{◌≡◌, ℕ, [], ◌++◌, slice_get, Some, sym, ap, ◌∙◌}
use Rattle.std.proofs.lemmas.Option.{same_Some}
use Rattle.meta_model.specs.declared.object.MetaMethod.{MetaMethod}
use Rattle.meta_model.specs.Loaded.{Loaded}
use Rattle.meta_model.specs.Members.{IsMethod}
use Rattle.meta_model.specs.Root.{root_methods}
use Rattle.meta_model.specs.Sound.{IsSound}

module _ {p : Loaded} (sound : IsSound p) where
  -- method 1 of every class is `destroyed()`, which has no parameters
  pub destroyed_alone_types : (c : ℕ) (method : MetaMethod) → IsMethod p c 1 method → method.sig.types ≡ []
  destroyed_alone_types c method is =
      let begins = (sound.classes c is.class is.is_class).begins in
      let e : slice_get (root_methods ++ begins.own_methods) 1 ≡ Some method = ap (λ ms. slice_get ms 1) (sym begins.methods) ∙ is.is in
      ap (λ (m : MetaMethod). m.sig.types) (sym (same_Some _ _ e))
