-- Bases that don't stand before their classes (docs/language.md, "Names").
use Rattle.std.specs.Prelude.{◌≡◌, ℕ, List, [], ◌∷◌, ◌++◌, Any, ◌⊎◌, codes}
use Rattle.syntax_trees.specs.declared.program.Class.{Class}
use Rattle.syntax_trees.specs.declared.program.Program.{Program}
use Rattle.class_outlines.specs.Outlines.{base_name}

-- the base of one of the classes isn't among the names of those before it
abbrev pub LacksBase : List (List ℕ) → List Class → Type 0
LacksBase before [] = ⊥
LacksBase before (class ∷ classes) =
    (¬ Any (λ name. name ≡ base_name class.base) before) ⊎ LacksBase (before ++ class.name ∷ []) classes

abbrev pub NoBase : Program → Type 0
NoBase program = LacksBase (codes "QObject" ∷ []) program.classes
