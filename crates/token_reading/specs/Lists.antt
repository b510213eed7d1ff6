-- Lists of parts in a grammar. `spell` gives the tokens of a part's reading, and what follows them.
use Rattle.std.specs.Prelude.{List, [], ◌∷◌, map}
use Rattle.basic_types.specs.declared.word.Word.{Word}
use Rattle.texts.specs.declared.symbol.Symbol.TheVariants.{Open, Close, Comma}
use Rattle.texts.specs.declared.token.Token.{Token}
use Rattle.texts.specs.declared.token.Token.TheVariants as token

-- {part}
abbrev pub spell_each : {R : Type 0} → (R → List Token → List Token) → List R → List Token → List Token
spell_each spell [] after = after
spell_each spell (r ∷ rs) after = spell r (spell_each spell rs after)

-- {"," part}
abbrev pub spell_further : {R : Type 0} → (R → List Token → List Token) → List R → List Token → List Token
spell_further spell [] after = after
spell_further spell (r ∷ rs) after = token.Symbol Comma ∷ spell r (spell_further spell rs after)

-- part {"," part}: the first one and the others
abbrev pub spell_parts : {R : Type 0} → (R → List Token → List Token) → R × List R → List Token → List Token
spell_parts spell parts after = spell parts.0 (spell_further spell parts.1 after)

abbrev pub trees_of_parts : {R A : Type 0} → (R → A) → R × List R → List A
trees_of_parts tree parts = tree parts.0 ∷ map tree parts.1

-- [word part {"," part}]
abbrev pub spell_after : {R : Type 0} → Word → (R → List Token → List Token) → List R → List Token → List Token
spell_after word spell [] after = after
spell_after word spell (r ∷ rs) after = token.Word word ∷ spell_parts spell (r, rs) after

-- {"," part} ")"
abbrev pub spell_others : {R : Type 0} → (R → List Token → List Token) → List R → List Token → List Token
spell_others spell rs after = spell_further spell rs (token.Symbol Close ∷ after)

-- "(" [part {"," part}] ")"
abbrev pub spell_listed : {R : Type 0} → (R → List Token → List Token) → List R → List Token → List Token
spell_listed spell [] after = token.Symbol Open ∷ token.Symbol Close ∷ after
spell_listed spell (r ∷ rs) after = token.Symbol Open ∷ spell r (spell_others spell rs after)
