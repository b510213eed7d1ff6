-- What the readers of connections do, and where such a part may end.
use Rattle.std.specs.Prelude.{◌≡◌, Bool, true, false, List, Option, Result, Ok, Err}
use Rattle.basic_types.specs.declared.sig.Sig.{Sig}
use Rattle.basic_types.specs.declared.word.Word.{Word}
use Rattle.basic_types.specs.declared.word.Word.TheVariants.{Unique, Single}
use Rattle.token_reading.specs.code.Reading.{Reads, EndsAnywhere}
use Rattle.token_reading.specs.Signatures.{SigReading, spell_sig}
use Rattle.syntax_trees.specs.declared.connection.ConnectionType.{ConnectionType}
use Rattle.syntax_trees.specs.declared.connection.Endpoints.{Endpoints}
use Rattle.token_reading.specs.declared.fault.ParseFault.{ParseFault}
use Rattle.texts.specs.declared.symbol.Symbol.{Symbol}
use Rattle.texts.specs.declared.token.Token.{Token}
use Rattle.token_reading.specs.Connections.{spell_separator, spell_end, tree_of_end, spell_ends, tree_of_ends, spell_flag, spell_connection_type}

-- an object may end in front of a separator and a signature
abbrev pub EndsAtSig : (List Token → Type 0) → Option Symbol → Type 0
EndsAtSig Ends separator = (sig : SigReading) (rest : List Token) → Ends (spell_separator separator (spell_sig sig rest))

-- the separator and the word aren't what comes next
abbrev pub NotAtFlag : Option Symbol → Word → List Token → Type 0
NotAtFlag separator word after = (rest : List Token) → after ≡ spell_flag separator word true rest → ⊥

-- nothing comes next with which a connection's type would go on
pub record EndsConnectionType (separator : Option Symbol) (after : List Token) : Type 0 where
  pub not_unique : NotAtFlag separator Unique after
  pub not_single : NotAtFlag separator Single after

-- the separator is taken, if there is one; an error only where it doesn't come next
abbrev pub TakesSeparator : {A : Type 0} → Option Symbol → List Token → Result A ParseFault → List Token → Type 0
TakesSeparator separator before (Ok _) after = before ≡ spell_separator separator after
TakesSeparator separator before (Err fault) after = (rest : List Token) → before ≡ spell_separator separator rest → ⊥

-- the separator and the word are taken where they come next, and nothing where they don't
abbrev pub EatsFlag : Option Symbol → Word → List Token → Bool → List Token → Type 0
EatsFlag separator word before true after = before ≡ spell_flag separator word true after
EatsFlag separator word before false after = (after ≡ before) × NotAtFlag separator word before

abbrev pub ReadsEnd : {R O : Type 0} → (R → List Token → List Token) → (R → O) → Option Symbol → List Token → Result (O × Sig) ParseFault → List Token → Type 0
ReadsEnd spell tree separator before result after = Reads (spell_end spell separator) (tree_of_end tree) EndsAnywhere before result after

abbrev pub ReadsEnds : {R O : Type 0} → (R → List Token → List Token) → (R → O) → Option Symbol → List Token → Result (Endpoints O) ParseFault → List Token → Type 0
ReadsEnds spell tree separator before result after = Reads (spell_ends spell separator) (tree_of_ends tree) EndsAnywhere before result after

abbrev pub ReadsConnectionType : Option Symbol → List Token → Result ConnectionType ParseFault → List Token → Type 0
ReadsConnectionType separator before result after = Reads (spell_connection_type separator) (λ how. how) (EndsConnectionType separator) before result after
