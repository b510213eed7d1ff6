use Rattle.std.proofs.Common.{◌≡◌, take, map}
use Rattle.class_outlines.proofs.outlining.declared_sig.Given as goal

abbrev pub invariant-loop-parameter : goal.invariant-loop-parameter
invariant-loop-parameter l = l.types ≡ map (λ p. p.kind) (take l.parameter-index l.parameters)
