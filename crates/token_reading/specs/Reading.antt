-- How a grammar is written. For each of its rules there is a type; a value of it is a reading, a way to read tokens by the
-- rule. `spell` gives a reading's tokens and what follows them, and `tree` the tree that it stands for. Of a name's rule a
-- reading is its own tree.
use Rattle.std.specs.Prelude.{List, ℕ, ◌∷◌}
use Rattle.texts.specs.declared.token.Token.{Token}
use Rattle.texts.specs.declared.token.Token.TheVariants as token

-- a name
abbrev pub spell_name : List ℕ → List Token → List Token
spell_name name after = token.Name name ∷ after
