-- What the readers of declarations do, where a declaration may end, and what a program with some more is.
use Rattle.std.specs.Prelude.{ℕ, List, Result, ◌++◌, Option}
use Rattle.token_reading.specs.code.Reading.{Reads, EndsAnywhere, IsAtEnd}
use Rattle.token_reading.specs.declared.fault.ParseFault.{ParseFault}
use Rattle.texts.specs.declared.token.Token.{Token}
use Rattle.syntax_trees.specs.declared.program.Formal.{Formal}
use Rattle.syntax_trees.specs.declared.program.Site.{Site}
use Rattle.class_lang.specs.Sites.{spell_formal, tree_of_formal, spell_site, tree_of_site}
use Rattle.token_reading.specs.code.Cursor.{NotAt}
use Rattle.token_reading.specs.Lists.{spell_each}
use Rattle.texts.specs.declared.symbol.Symbol.TheVariants.{Semicolon}
use Rattle.class_lang.specs.declared.declarations.ParsedDeclaration.{ParsedDeclaration}
use Rattle.syntax_trees.specs.declared.program.Class.{Class}
use Rattle.syntax_trees.specs.declared.program.Program.{Program}
use Rattle.class_lang.specs.Declarations.{spell_members, class_of, spell_declaration, tree_of_declaration, classes_in, wires_in, owns_in, sites_in, tree_of_program}

abbrev pub ReadsFormal : List Token → Result Formal ParseFault → List Token → Type 0
ReadsFormal before result after = Reads spell_formal tree_of_formal EndsAnywhere before result after

abbrev pub ReadsSite : List Token → Result Site ParseFault → List Token → Type 0
ReadsSite before result after = Reads spell_site tree_of_site EndsAnywhere before result after

-- no semicolon comes next, with which a class would go on
abbrev pub EndsDeclaration : List Token → Type 0
EndsDeclaration after = NotAt Semicolon after

-- the program, with these declarations after its own
abbrev pub with_declarations : Program → List ParsedDeclaration → Program
with_declarations program declarations = record {
  classes = program.classes ++ classes_in declarations;
  wires = program.wires ++ wires_in declarations;
  owns = program.owns ++ owns_in declarations;
  sites = program.sites ++ sites_in declarations;
}

-- the members of a class with this name and base
abbrev pub ReadsMembers : List ℕ → Option (List ℕ) → List Token → Result Class ParseFault → List Token → Type 0
ReadsMembers name base before result after = Reads spell_members (class_of name base) EndsAnywhere before result after

abbrev pub ReadsDeclaration : List Token → Result ParsedDeclaration ParseFault → List Token → Type 0
ReadsDeclaration before result after = Reads spell_declaration tree_of_declaration EndsDeclaration before result after

abbrev pub ReadsDeclarations : List Token → Result Program ParseFault → List Token → Type 0
ReadsDeclarations before result after = Reads (spell_each spell_declaration) tree_of_program IsAtEnd before result after
