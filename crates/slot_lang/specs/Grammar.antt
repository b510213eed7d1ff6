-- The grammar of slot bodies. A value of a type below is a way to read tokens by its rule (docs/language.md,
-- "Slot bodies").
--
--   block = "{" {stmt} "}"
--   stmt  = set
--         | "emit" Name "(" [expr {"," expr}] ")" ";"
--         | "call" path "." Name "(" [expr {"," expr}] ")" ";"
--         | "if" "(" expr ")" block ["else" block]
--         | "connect" ends "," how ";"
--         | "disconnect" ends ";"
--         | "delete" path ";"
--         | "later" path ";"
--         | "group" "{" set {set} "}"
--   set   = "set" path "." Name "=" expr ";"
--   ends  = path "," sig "," path "," sig
--   how   = kind ["," "unique"] ["," "single"]
--
-- `group` is a name; the other statements begin with reserved words.
use Rattle.std.specs.Prelude.{ℕ, ◌≡◌, List, [], ◌∷◌, map, codes, Some}
use Rattle.basic_types.specs.declared.word.Word.TheVariants as word
use Rattle.token_reading.specs.Connections.{BothEnds, spell_ends, tree_of_ends, spell_connection_type}
use Rattle.slot_lang.specs.Expressions.{Expression, spell_expression, spell_group, spell_path, tree_of_expression}
use Rattle.token_reading.specs.Lists.{spell_each, spell_listed, trees_of_parts}
use Rattle.syntax_trees.specs.declared.connection.ConnectionType.{ConnectionType}
use Rattle.syntax_trees.specs.declared.connection.Endpoints.{Endpoints}
use Rattle.texts.specs.declared.symbol.Symbol.TheVariants.{Dot, Comma, Assign, Semicolon, Open, OpenBrace, CloseBrace}
use Rattle.syntax_trees.specs.declared.syntax.Path.{Path}
use Rattle.syntax_trees.specs.declared.syntax.Stmt.{Stmt}
use Rattle.syntax_trees.specs.declared.syntax.Stmt.TheVariants as stmt
use Rattle.texts.specs.declared.token.Token.{Token}
use Rattle.texts.specs.declared.token.Token.TheVariants as token

-- ---- the parts of statements

-- path "." Name
abbrev pub Target : Type 0
Target = Path × List ℕ

abbrev pub spell_target : Target → List Token → List Token
spell_target t after = spell_path t.0 (token.Symbol Dot ∷ token.Name t.1 ∷ after)

-- "=" expr ";"
abbrev pub spell_value : Expression → List Token → List Token
spell_value e after = token.Symbol Assign ∷ spell_expression e (token.Symbol Semicolon ∷ after)

-- "(" [expr {"," expr}] ")" ";"
abbrev pub spell_arguments : List Expression → List Token → List Token
spell_arguments es after = spell_listed spell_expression es (token.Symbol Semicolon ∷ after)

-- "(" expr ")"
abbrev pub spell_condition : Expression → List Token → List Token
spell_condition e after = token.Symbol Open ∷ spell_group e after

-- what follows "set"
abbrev pub Assignment : Type 0
Assignment = Target × Expression

abbrev pub spell_assignment : Assignment → List Token → List Token
spell_assignment a after = spell_target a.0 (spell_value a.1 after)

abbrev pub tree_of_assignment : Assignment → Stmt
tree_of_assignment a = stmt.Set a.0.0 a.0.1 (tree_of_expression a.1)

-- "set" path "." Name "=" expr ";"
abbrev pub spell_set : Assignment → List Token → List Token
spell_set a after = token.Word word.Set ∷ spell_assignment a after

-- set {set} "}": the first one and the others
abbrev pub Sets : Type 0
Sets = Assignment × List Assignment

abbrev pub spell_sets : Sets → List Token → List Token
spell_sets sets after = spell_set sets.0 (spell_each spell_set sets.1 (token.Symbol CloseBrace ∷ after))

abbrev pub trees_of_sets : Sets → List Stmt
trees_of_sets sets = trees_of_parts tree_of_assignment sets

-- what follows "group"
abbrev pub spell_update_group : Sets → List Token → List Token
spell_update_group sets after = token.Symbol OpenBrace ∷ spell_sets sets after

abbrev pub tree_of_update_group : Sets → Stmt
tree_of_update_group sets = stmt.Group (trees_of_sets sets)

-- what follows "emit"
abbrev pub Emission : Type 0
Emission = List ℕ × List Expression

abbrev pub spell_emission : Emission → List Token → List Token
spell_emission e after = token.Name e.0 ∷ spell_arguments e.1 after

abbrev pub tree_of_emission : Emission → Stmt
tree_of_emission e = stmt.Emit e.0 (map tree_of_expression e.1)

-- what follows "call"
abbrev pub Call : Type 0
Call = Target × List Expression

abbrev pub spell_call : Call → List Token → List Token
spell_call c after = spell_target c.0 (spell_arguments c.1 after)

abbrev pub tree_of_call : Call → Stmt
tree_of_call c = stmt.Call c.0.0 c.0.1 (map tree_of_expression c.1)

-- the ends of a connection
abbrev pub PathEnds : Type 0
PathEnds = BothEnds Path

abbrev pub spell_path_ends : PathEnds → List Token → List Token
spell_path_ends ends after = spell_ends spell_path (Some Comma) ends after

abbrev pub tree_of_path_ends : PathEnds → Endpoints Path
tree_of_path_ends ends = tree_of_ends (λ path. path) ends

-- "," how ";"
abbrev pub spell_how : ConnectionType → List Token → List Token
spell_how how after = token.Symbol Comma ∷ spell_connection_type (Some Comma) how (token.Symbol Semicolon ∷ after)

-- what follows "connect"
abbrev pub Connection : Type 0
Connection = PathEnds × ConnectionType

abbrev pub spell_connection : Connection → List Token → List Token
spell_connection c after = spell_path_ends c.0 (spell_how c.1 after)

abbrev pub tree_of_connection : Connection → Stmt
tree_of_connection c = stmt.Connect (tree_of_path_ends c.0) c.1

-- what follows "disconnect"
abbrev pub spell_disconnection : PathEnds → List Token → List Token
spell_disconnection ends after = spell_path_ends ends (token.Symbol Semicolon ∷ after)

abbrev pub tree_of_disconnection : PathEnds → Stmt
tree_of_disconnection ends = stmt.Disconnect (tree_of_path_ends ends)

-- what follows "delete", and "later": path ";"
abbrev pub spell_object : Path → List Token → List Token
spell_object path after = spell_path path (token.Symbol Semicolon ∷ after)

abbrev pub tree_of_deletion : Path → Stmt
tree_of_deletion path = stmt.Delete path

abbrev pub tree_of_later_deletion : Path → Stmt
tree_of_later_deletion path = stmt.Later path

-- ---- statements and blocks

mutual
  -- {stmt}
  pub data Body : Type 0 where
    no_more : Body
    more : Statement → Body → Body

  pub data Statement : Type 0 where
    set : Assignment → Statement
    emit : Emission → Statement
    call : Call → Statement
    choice : Expression → Body → Else → Statement
    connect : Connection → Statement
    disconnect : PathEnds → Statement
    delete : Path → Statement
    later : Path → Statement
    group : Sets → Statement

  -- ["else" block]
  pub data Else : Type 0 where
    no_else : Else
    else_block : Body → Else

abbrev mutual
  pub spell_statements : Body → List Token → List Token
  spell_statements no_more after = after
  spell_statements (more s body) after = spell_statement s (spell_statements body after)

  pub spell_statement : Statement → List Token → List Token
  spell_statement (set a) after = spell_set a after
  spell_statement (emit e) after = token.Word word.Emit ∷ spell_emission e after
  spell_statement (call c) after = token.Word word.Call ∷ spell_call c after
  spell_statement (choice e body other) after =
      token.Word word.If ∷ spell_condition e (token.Symbol OpenBrace ∷ spell_statements body (token.Symbol CloseBrace ∷ spell_else other after))
  spell_statement (connect c) after = token.Word word.Connect ∷ spell_connection c after
  spell_statement (disconnect ends) after = token.Word word.Disconnect ∷ spell_disconnection ends after
  spell_statement (delete path) after = token.Word word.Delete ∷ spell_object path after
  spell_statement (later path) after = token.Word word.Later ∷ spell_object path after
  spell_statement (group sets) after = token.Name (codes "group") ∷ spell_update_group sets after

  pub spell_else : Else → List Token → List Token
  spell_else no_else after = after
  spell_else (else_block body) after = token.Word word.Else ∷ token.Symbol OpenBrace ∷ spell_statements body (token.Symbol CloseBrace ∷ after)

abbrev pub spell_block : Body → List Token → List Token
spell_block body after = token.Symbol OpenBrace ∷ spell_statements body (token.Symbol CloseBrace ∷ after)

abbrev mutual
  pub tree_of_block : Body → List Stmt
  tree_of_block no_more = []
  tree_of_block (more s body) = tree_of_statement s ∷ tree_of_block body

  pub tree_of_statement : Statement → Stmt
  tree_of_statement (set a) = tree_of_assignment a
  tree_of_statement (emit e) = tree_of_emission e
  tree_of_statement (call c) = tree_of_call c
  tree_of_statement (choice e body other) = stmt.If (tree_of_expression e) (tree_of_block body) (tree_of_else other)
  tree_of_statement (connect c) = tree_of_connection c
  tree_of_statement (disconnect ends) = tree_of_disconnection ends
  tree_of_statement (delete path) = tree_of_deletion path
  tree_of_statement (later path) = tree_of_later_deletion path
  tree_of_statement (group sets) = tree_of_update_group sets

  -- a missing `else` is an empty one
  pub tree_of_else : Else → List Stmt
  tree_of_else no_else = []
  tree_of_else (else_block body) = tree_of_block body

-- the tokens are a block with these statements
pub record IsBody (tokens : List Token) (body : List Stmt) : Type 0 where
  pub reading : Body
  pub spelled : tokens ≡ spell_block reading []
  pub tree : tree_of_block reading ≡ body

-- they are no block
abbrev pub IsNoBody : List Token → Type 0
IsNoBody tokens = (body : List Stmt) → IsBody tokens body → ⊥

-- tokens are a slot's body in at most one way
abbrev pub OneBody : Type 0
OneBody = (tokens : List Token) (a b : List Stmt) → IsBody tokens a → IsBody tokens b → a ≡ b
