-- The grammar of natives. A value of a type below is a way to read tokens by its rule
-- (docs/language.md, "Natives").
--
--   native  = Name "(" [signal_parameter {"," signal_parameter}] ")" effects
--   effects = ["reads" Name {"," Name}] ["emits" sig {"," sig}] ["sets" Name {"," Name}] ";"
use Rattle.std.specs.Prelude.{ℕ, List, ◌∷◌, map}
use Rattle.basic_types.specs.declared.word.Word.TheVariants as word
use Rattle.token_reading.specs.Lists.{spell_listed, spell_after}
use Rattle.token_reading.specs.Reading.{spell_name}
use Rattle.token_reading.specs.Signatures.{SigReading, spell_sig, tree_of_sig}
use Rattle.texts.specs.declared.symbol.Symbol.TheVariants.{Semicolon}
use Rattle.texts.specs.declared.token.Token.{Token}
use Rattle.texts.specs.declared.token.Token.TheVariants as token
use Rattle.syntax_trees.specs.declared.program.EffectNames.{EffectNames}
use Rattle.syntax_trees.specs.declared.program.Slot.{Slot}
use Rattle.syntax_trees.specs.declared.program.SlotWork.TheVariants as work
use Rattle.class_lang.specs.Parameters.{SignalParameter, spell_signal_parameter, tree_of_signal_parameter}

-- ["reads" Name {"," Name}]
abbrev pub spell_reads : List (List ℕ) → List Token → List Token
spell_reads reads after = spell_after word.Reads spell_name reads after

-- ["emits" sig {"," sig}]
abbrev pub spell_emits : List SigReading → List Token → List Token
spell_emits emits after = spell_after word.Emits spell_sig emits after

-- ["sets" Name {"," Name}]
abbrev pub spell_sets : List (List ℕ) → List Token → List Token
spell_sets sets after = spell_after word.Sets spell_name sets after

pub data EffectsReading : Type 0 where
  effects : (reads : List (List ℕ)) → (emits : List SigReading) → (sets : List (List ℕ)) → EffectsReading

abbrev pub spell_effects : EffectsReading → List Token → List Token
spell_effects (effects reads emits sets) after =
    spell_reads reads (spell_emits emits (spell_sets sets (token.Symbol Semicolon ∷ after)))

abbrev pub tree_of_effects : EffectsReading → EffectNames
tree_of_effects (effects reads emits sets) = record { reads = reads; emits = map tree_of_sig emits; sets = sets }

pub data NativeReading : Type 0 where
  native : (name : List ℕ) → List SignalParameter → EffectsReading → NativeReading

abbrev pub spell_native : NativeReading → List Token → List Token
spell_native (native name parameters given) after =
    token.Name name ∷ spell_listed spell_signal_parameter parameters (spell_effects given after)

abbrev pub tree_of_native : NativeReading → Slot
tree_of_native (native name parameters given) =
    record { name = name; parameters = map tree_of_signal_parameter parameters; work = work.Native (tree_of_effects given) }
