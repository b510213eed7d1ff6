-- What is left of a body (docs/machine.md, "Rules").
use Rattle.std.specs.Prelude.{List, [], ◌∷◌, ◌++◌}
use denote.Bor.{Bor}
use Rattle.meta_model.specs.declared.object.Statement.{Statement}

-- the statements of blocks, of which the last one comes first
abbrev pub of_blocks : List (Bor (List Statement)) → List Statement
of_blocks [] = []
of_blocks (b ∷ blocks) = of_blocks blocks ++ b.now
