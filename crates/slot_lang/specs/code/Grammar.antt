-- What the readers of statements do, and where a statement may end.
use Rattle.std.specs.Prelude.{List, map, Result}
use Rattle.basic_types.specs.declared.word.Word.TheVariants as word
use Rattle.token_reading.specs.code.Cursor.{NotAtWord}
use Rattle.slot_lang.specs.Expressions.{Expression, tree_of_expression}
use Rattle.token_reading.specs.code.Reading.{Reads, EndsAnywhere}
use Rattle.token_reading.specs.declared.fault.ParseFault.{ParseFault}
use Rattle.syntax_trees.specs.declared.syntax.Expr.{Expr}
use Rattle.syntax_trees.specs.declared.syntax.Path.{Path}
use Rattle.syntax_trees.specs.declared.syntax.Stmt.{Stmt}
use Rattle.syntax_trees.specs.declared.syntax.Stmt.TheVariants as stmt
use Rattle.texts.specs.declared.token.Token.{Token}
use Rattle.slot_lang.specs.Grammar.{spell_arguments, spell_condition, spell_assignment, tree_of_assignment, spell_sets, trees_of_sets, spell_update_group, tree_of_update_group, spell_emission, tree_of_emission, spell_connection, tree_of_connection, spell_disconnection, tree_of_disconnection, spell_object, tree_of_deletion, tree_of_later_deletion, Body, Else, spell_statement, spell_else, spell_block, tree_of_block, tree_of_statement, tree_of_else}

-- what follows "if"
abbrev pub Choice : Type 0
Choice = Expression × Body × Else

abbrev pub spell_choice : Choice → List Token → List Token
spell_choice c after = spell_condition c.0 (spell_block c.1 (spell_else c.2 after))

abbrev pub tree_of_choice : Choice → Stmt
tree_of_choice c = stmt.If (tree_of_expression c.0) (tree_of_block c.1) (tree_of_else c.2)

-- what can't follow a statement
abbrev pub EndsStatement : List Token → Type 0
EndsStatement after = NotAtWord word.Else after

abbrev pub ReadsAssignment : List Token → Result Stmt ParseFault → List Token → Type 0
ReadsAssignment before result after = Reads spell_assignment tree_of_assignment EndsAnywhere before result after

abbrev pub ReadsStatement : List Token → Result Stmt ParseFault → List Token → Type 0
ReadsStatement before result after = Reads spell_statement tree_of_statement EndsStatement before result after

abbrev pub ReadsSets : List Token → Result (List Stmt) ParseFault → List Token → Type 0
ReadsSets before result after = Reads spell_sets trees_of_sets EndsAnywhere before result after

abbrev pub ReadsUpdateGroup : List Token → Result Stmt ParseFault → List Token → Type 0
ReadsUpdateGroup before result after = Reads spell_update_group tree_of_update_group EndsAnywhere before result after

abbrev pub ReadsEmission : List Token → Result Stmt ParseFault → List Token → Type 0
ReadsEmission before result after = Reads spell_emission tree_of_emission EndsAnywhere before result after

abbrev pub ReadsCondition : List Token → Result (Expr Path) ParseFault → List Token → Type 0
ReadsCondition before result after = Reads spell_condition tree_of_expression EndsAnywhere before result after

abbrev pub ReadsArguments : List Token → Result (List (Expr Path)) ParseFault → List Token → Type 0
ReadsArguments before result after = Reads spell_arguments (map tree_of_expression) EndsAnywhere before result after

abbrev pub ReadsConnection : List Token → Result Stmt ParseFault → List Token → Type 0
ReadsConnection before result after = Reads spell_connection tree_of_connection EndsAnywhere before result after

abbrev pub ReadsDisconnection : List Token → Result Stmt ParseFault → List Token → Type 0
ReadsDisconnection before result after = Reads spell_disconnection tree_of_disconnection EndsAnywhere before result after

abbrev pub ReadsDeletion : List Token → Result Stmt ParseFault → List Token → Type 0
ReadsDeletion before result after = Reads spell_object tree_of_deletion EndsAnywhere before result after

abbrev pub ReadsLaterDeletion : List Token → Result Stmt ParseFault → List Token → Type 0
ReadsLaterDeletion before result after = Reads spell_object tree_of_later_deletion EndsAnywhere before result after
