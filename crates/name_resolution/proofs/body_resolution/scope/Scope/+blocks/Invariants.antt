use Rattle.std.proofs.Common.{List, ◌++◌, drop}
use Rattle.meta_model.specs.declared.object.Statement.{Statement}
use Rattle.name_resolution.specs.code.Bodies.{AreStatements}
use Rattle.name_resolution.specs.code.Resolving.{scope}
use Rattle.name_resolution.proofs.body_resolution.scope.Scope.+blocks.Given as goal

-- what is left decides
abbrev pub invariant-resolve_block-loop-statement : goal.invariant-resolve_block-loop-statement
invariant-resolve_block-loop-statement l = record {
  left : (more : List Statement) → AreStatements (scope l.self) (drop l.statement-index l.body) more → AreStatements (scope l.self) l.body (l.statements ++ more);
  only : (all : List Statement) → AreStatements (scope l.self) l.body all → (more : List Statement) × AreStatements (scope l.self) (drop l.statement-index l.body) more;
}
