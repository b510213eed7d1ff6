-- A native's effects as they are loaded, by the numbers of members of the class that declares the native (docs/machine.md,
-- "Loading").
use Rattle.std.specs.Prelude.{◌≡◌, ℕ, ◌<◌}
use Rattle.std.specs.List.{AllZip}
use Rattle.basic_types.specs.declared.sig.Sig.{Sig}
use Rattle.syntax_trees.specs.declared.program.EffectNames.{EffectNames}
use Rattle.meta_model.specs.declared.effects.MetaEffects.{MetaEffects}
use Rattle.meta_model.specs.declared.object.Work.TheVariants.{Signal}
use Rattle.meta_model.specs.declared.qobject.TheConstants.{OBJECT_NAME_CHANGED}
use Rattle.meta_model.specs.Loaded.{Loaded}
use Rattle.meta_model.specs.Members.{HasSig, IsPropertyNamed}

-- method m of class c is the signal of this signature, which isn't one of those that the runtime emits
pub record IsEmitted (p : Loaded) (c : ℕ) (sig : Sig) (m : ℕ) : Type 0 where
  pub signal : HasSig p c sig m
  pub signals : signal.method.work ≡ Signal
  pub emitted : OBJECT_NAME_CHANGED < m

pub record AreLoadedEffects (p : Loaded) (c : ℕ) (names : EffectNames) (effects : MetaEffects) : Type 0 where
  pub reads : AllZip (IsPropertyNamed p c) names.reads effects.reads
  pub emits : AllZip (IsEmitted p c) names.emits effects.emits
  pub sets : AllZip (IsPropertyNamed p c) names.sets effects.sets
