use Rattle.type_check.specs.Bodies.{IsGivenIn}
use Rattle.type_check.proofs.Properties.{RelateBefore}
use Rattle.type_check.proofs.scope.BodyScope.are_given.Given as goal

-- the earlier expressions may be given
abbrev pub invariant-loop-place : goal.invariant-loop-place
invariant-loop-place l = RelateBefore (IsGivenIn l.self.meta.now l.self.class l.self.types.now) l.declared l.given l.place
