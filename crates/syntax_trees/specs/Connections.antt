-- The signatures at the ends of connections.
use Rattle.std.specs.Prelude.{◌≤◌, length, List, [], ◌∷◌}
use Rattle.basic_types.specs.Signatures.{most_parameters}
use Rattle.basic_types.specs.declared.sig.Sig.{Sig}
use Rattle.syntax_trees.specs.declared.connection.Endpoints.{Endpoints}

-- a signature may have at most 8 types (docs/language.md, "Limits")
abbrev pub HasFewTypes : Sig → Type 0
HasFewTypes s = length s.types ≤ most_parameters

-- the signatures at the two ends
abbrev pub signatures_at : {O : Type 0} → Endpoints O → List Sig
signatures_at ends = ends.signal ∷ ends.method ∷ []
