-- How the names of a native's effects are looked up, in the outlines of classes (docs/language.md, "Names").
use Rattle.std.specs.Prelude.{ℕ, ◌<◌, List}
use Rattle.std.specs.List.{AllZip}
use Rattle.basic_types.specs.declared.sig.Sig.{Sig}
use Rattle.syntax_trees.specs.declared.program.EffectNames.{EffectNames}
use Rattle.syntax_trees.specs.declared.program.Property.{Property}
use Rattle.meta_model.specs.declared.effects.MetaEffects.{MetaEffects}
use Rattle.class_outlines.specs.declared.outline.Outline.{Outline}
use Rattle.meta_model.specs.declared.qobject.TheConstants.{OBJECT_NAME_CHANGED}
use Rattle.class_outlines.specs.Notifiers.{IsSignalOf}
use Rattle.class_outlines.specs.Ends.{IsEnd}
use Rattle.class_outlines.specs.DeclaredSites.{IsPropertyIn}

-- property q of the class of this name, inherited or its own, has this name
pub record HasPropertyIn (outlines : List Outline) (class name : List ℕ) (q : ℕ) : Type 0 where
  pub number : ℕ
  pub property : Property
  pub is : IsPropertyIn outlines class name number q property

-- method m of the class is the signal of this signature, which isn't one of those that the runtime emits
pub record HasSignalIn (outlines : List Outline) (class : List ℕ) (sig : Sig) (m : ℕ) : Type 0 where
  pub number : ℕ
  pub is : IsEnd (IsSignalOf sig) outlines class number m
  pub emitted : OBJECT_NAME_CHANGED < m

-- the names in the order declared, each with its number in the native's class
pub record AreEffects (outlines : List Outline) (class : List ℕ) (names : EffectNames) (effects : MetaEffects) : Type 0 where
  pub reads : AllZip (HasPropertyIn outlines class) names.reads effects.reads
  pub emits : AllZip (HasSignalIn outlines class) names.emits effects.emits
  pub sets : AllZip (HasPropertyIn outlines class) names.sets effects.sets
