-- Connections, as bodies and scripts name them (docs/language.md, "Slot bodies" and "Scripts"). A value of a type below
-- is a way to read tokens by its rule.
--
--   ends = end separator end
--   end  = object separator sig
--   how  = kind [separator "unique"] [separator "single"]
--
-- In a body an object is a path, and the separator a comma. In a script it is a name, and there is no separator. `spell`
-- gives the tokens of an object's reading, and what follows them; `tree` the tree that it stands for.
use Rattle.std.specs.Prelude.{Bool, true, false, List, ◌∷◌, Option, Some, None}
use Rattle.basic_types.specs.declared.sig.Sig.{Sig}
use Rattle.basic_types.specs.declared.word.Word.{Word}
use Rattle.basic_types.specs.declared.word.Word.TheVariants.{Unique, Single}
use Rattle.token_reading.specs.Signatures.{SigReading, spell_sig, tree_of_sig, spell_kind}
use Rattle.syntax_trees.specs.declared.connection.ConnectionType.{ConnectionType}
use Rattle.syntax_trees.specs.declared.connection.Endpoints.{Endpoints}
use Rattle.texts.specs.declared.symbol.Symbol.{Symbol}
use Rattle.texts.specs.declared.token.Token.{Token}
use Rattle.texts.specs.declared.token.Token.TheVariants as token

abbrev pub spell_separator : Option Symbol → List Token → List Token
spell_separator None after = after
spell_separator (Some symbol) after = token.Symbol symbol ∷ after

-- ---- the two ends

abbrev pub End : Type 0 → Type 0
End R = R × SigReading

abbrev pub spell_end : {R : Type 0} → (R → List Token → List Token) → Option Symbol → End R → List Token → List Token
spell_end spell separator end after = spell end.0 (spell_separator separator (spell_sig end.1 after))

abbrev pub tree_of_end : {R O : Type 0} → (R → O) → End R → O × Sig
tree_of_end tree end = (tree end.0, tree_of_sig end.1)

-- the sender's end and the receiver's
abbrev pub BothEnds : Type 0 → Type 0
BothEnds R = End R × End R

abbrev pub spell_ends : {R : Type 0} → (R → List Token → List Token) → Option Symbol → BothEnds R → List Token → List Token
spell_ends spell separator ends after =
    spell_end spell separator ends.0 (spell_separator separator (spell_end spell separator ends.1 after))

abbrev pub endpoints_of : {O : Type 0} → O × Sig → O × Sig → Endpoints O
endpoints_of from to = record { sender = from.0; signal = from.1; receiver = to.0; method = to.1 }

abbrev pub tree_of_ends : {R O : Type 0} → (R → O) → BothEnds R → Endpoints O
tree_of_ends tree ends = endpoints_of (tree_of_end tree ends.0) (tree_of_end tree ends.1)

-- ---- how a connection is to be made

-- [separator word]
abbrev pub spell_flag : Option Symbol → Word → Bool → List Token → List Token
spell_flag separator word true after = spell_separator separator (token.Word word ∷ after)
spell_flag separator word false after = after

abbrev pub spell_connection_type : Option Symbol → ConnectionType → List Token → List Token
spell_connection_type separator how after =
    spell_kind how.kind (spell_flag separator Unique how.unique (spell_flag separator Single how.single after))
