-- The signatures in slot bodies (docs/language.md, "Limits").
use Rattle.std.specs.Prelude.{List, [], ◌++◌, flat_map}
use Rattle.basic_types.specs.declared.sig.Sig.{Sig}
use Rattle.syntax_trees.specs.Connections.{signatures_at}
use Rattle.syntax_trees.specs.declared.syntax.Stmt.{Stmt}
use Rattle.syntax_trees.specs.declared.syntax.Stmt.TheOpen as layer
use Rattle.syntax_trees.specs.declared.syntax.Stmt.TheFolds.{fold-Stmt}

-- the signatures in a statement, from those in the statements of its blocks
abbrev pub signatures_step : layer.Stmt-F (List Sig) → List Sig
signatures_step (layer.Set path property value) = []
signatures_step (layer.Emit signal arguments) = []
signatures_step (layer.Call path method arguments) = []
signatures_step (layer.If condition body other) = flat_map (λ sigs. sigs) body ++ flat_map (λ sigs. sigs) other
signatures_step (layer.Connect ends how) = signatures_at ends
signatures_step (layer.Disconnect ends) = signatures_at ends
signatures_step (layer.Delete path) = []
signatures_step (layer.Later path) = []
signatures_step (layer.Group sets) = flat_map (λ sigs. sigs) sets

abbrev pub signatures_of : Stmt → List Sig
signatures_of = fold-Stmt (List Sig) signatures_step

-- the signatures in a body, one statement after another
abbrev pub signatures_in : List Stmt → List Sig
signatures_in body = flat_map signatures_of body
