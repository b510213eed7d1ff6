-- Natives from their parts.
use Rattle.std.proofs.Common.{◌≡◌, ◌∙◌, ℕ, List, [], ◌∷◌, sym, map}
use Rattle.std.proofs.lemmas.List.{map-id}
use Rattle.basic_types.specs.declared.sig.Sig.{Sig}
use Rattle.basic_types.specs.declared.word.Word.TheVariants as word
use Rattle.token_reading.specs.code.Lists.{EndsAfter}
use Rattle.token_reading.specs.Lists.{spell_listed}
use Rattle.token_reading.specs.code.Reading.{Found, EndsAnywhere}
use Rattle.token_reading.specs.Reading.{spell_name}
use Rattle.token_reading.specs.Signatures.{SigReading, tree_of_sig}
use Rattle.syntax_trees.specs.declared.program.EffectNames.{EffectNames}
use Rattle.syntax_trees.specs.declared.program.Parameter.{Parameter}
use Rattle.syntax_trees.specs.declared.program.SlotWork.TheVariants as work
use Rattle.texts.specs.declared.symbol.Symbol.TheVariants.{Semicolon}
use Rattle.texts.specs.declared.token.Token.{Token}
use Rattle.texts.specs.declared.token.Token.TheVariants as token
use Rattle.class_lang.specs.Natives.{spell_reads, spell_emits, spell_sets, EffectsReading, effects, spell_effects, tree_of_effects, NativeReading, native, spell_native, tree_of_native}
use Rattle.class_lang.specs.Parameters.{spell_signal_parameter, tree_of_signal_parameter}

-- ---- where the lists end

pub sets_end : (after : List Token) → EndsAfter word.Sets EndsAnywhere (token.Symbol Semicolon ∷ after)
sets_end after = record { parts = record { part = tt; no_comma = λ rest e. cc }; no_word = λ rest e. cc }

pub emits_end : (sets : List (List ℕ)) (after : List Token) → EndsAfter word.Emits EndsAnywhere (spell_sets sets (token.Symbol Semicolon ∷ after))
emits_end [] after = record { parts = record { part = tt; no_comma = λ rest e. cc }; no_word = λ rest e. cc }
emits_end (p ∷ ps) after = record { parts = record { part = tt; no_comma = λ rest e. cc }; no_word = λ rest e. cc }

pub reads_end : (emits : List SigReading) (sets : List (List ℕ)) (after : List Token) → EndsAfter word.Reads EndsAnywhere (spell_emits emits (spell_sets sets (token.Symbol Semicolon ∷ after)))
reads_end [] [] after = record { parts = record { part = tt; no_comma = λ rest e. cc }; no_word = λ rest e. cc }
reads_end [] (p ∷ ps) after = record { parts = record { part = tt; no_comma = λ rest e. cc }; no_word = λ rest e. cc }
reads_end (s ∷ ss) sets after = record { parts = record { part = tt; no_comma = λ rest e. cc }; no_word = λ rest e. cc }

-- ---- effects

module _ {before at_emits at_sets at_end : List Token} {reads sets : List (List ℕ)} {emits : List Sig} (r : Found spell_reads (map (λ n. n)) (EndsAfter word.Reads EndsAnywhere) before reads at_emits) (e : Found spell_emits (map tree_of_sig) (EndsAfter word.Emits EndsAnywhere) at_emits emits at_sets) (s : Found spell_sets (map (λ n. n)) (EndsAfter word.Sets EndsAnywhere) at_sets sets at_end) where
  effects_only : (x : EffectsReading) (after rest : List Token) → at_end ≡ token.Symbol Semicolon ∷ after → before ≡ spell_effects x rest → after ≡ rest
  effects_only (effects ps ss qs) after rest f g =
      let last = token.Symbol Semicolon ∷ rest in
      let a = r.only ps (spell_emits ss (spell_sets qs last)) (reads_end ss qs rest) g in
      let b = s.only qs last (sets_end rest) (e.only ss (spell_sets qs last) (emits_end qs rest) a) in
      cc

  pub effects_found : {after : List Token} → at_end ≡ token.Symbol Semicolon ∷ after → Found spell_effects tree_of_effects EndsAnywhere before (record { reads = reads; emits = emits; sets = sets }) after
  effects_found {after} f =
      let a = r.spelled in let b = e.spelled in let c = s.spelled in
      let x = sym (map-id r.reading) ∙ r.tree_is in let y = e.tree_is in let z = sym (map-id s.reading) ∙ s.tree_is in
      record { reading = effects r.reading e.reading s.reading; spelled = cc; tree_is = cc; only = λ x rest ends g. effects_only x after rest f g }

-- ---- natives

module _ {before at_parameters at_effects : List Token} {name : List ℕ} {parameters : List Parameter} (n : Found spell_name (λ n. n) EndsAnywhere before name at_parameters) (p : Found (spell_listed spell_signal_parameter) (map tree_of_signal_parameter) EndsAnywhere at_parameters parameters at_effects) where
  native_only : (r : NativeReading) {given : EffectNames} (after rest : List Token) → Found spell_effects tree_of_effects EndsAnywhere at_effects given after → before ≡ spell_native r rest → after ≡ rest
  native_only (native x ps within) after rest f g =
      f.only within rest tt (p.only ps (spell_effects within rest) tt (n.only x (spell_listed spell_signal_parameter ps (spell_effects within rest)) tt g))

  pub native_found : {given : EffectNames} {after : List Token} → Found spell_effects tree_of_effects EndsAnywhere at_effects given after → Found spell_native tree_of_native EndsAnywhere before (record { name = name; parameters = parameters; work = work.Native given }) after
  native_found {given} {after} f =
      let a = n.spelled in let b = p.spelled in let c = f.spelled in
      let x = n.tree_is in let y = p.tree_is in let z = f.tree_is in
      record { reading = native n.reading p.reading f.reading; spelled = cc; tree_is = cc; only = λ r rest ends g. native_only r after rest f g }
