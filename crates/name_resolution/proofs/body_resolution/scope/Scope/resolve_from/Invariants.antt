use Rattle.std.proofs.Common.{List, ◌++◌, drop}
use Rattle.basic_types.specs.declared.qtype.QType.{QType}
use Rattle.meta_model.specs.declared.object.Step.{Step}
use Rattle.name_resolution.specs.code.Bodies.{AreSteps}
use Rattle.name_resolution.proofs.body_resolution.scope.Scope.resolve_from.Given as goal

-- what is left decides
abbrev pub invariant-loop-name : goal.invariant-loop-name
invariant-loop-name l = record {
  left : (more : List Step) (U : QType) → AreSteps l.self.outlines.now l.kind (drop l.name-index l.names) more U → AreSteps l.self.outlines.now l.fn.start l.names (l.steps ++ more) U;
  only : (all : List Step) (U : QType) → AreSteps l.self.outlines.now l.fn.start l.names all U → (more : List Step) × AreSteps l.self.outlines.now l.kind (drop l.name-index l.names) more U;
}
