use Rattle.std.proofs.Common.{◌++◌, [], sym, ◌∙◌, ap, append_assoc}
use Rattle.std.proofs.lemmas.List.{append-nil}
use Rattle.basic_types.proofs.sig.fits_in_order.Goals as goal

pub returns-clause-itself : goal.returns-clause-itself
returns-clause-itself c = λ sig. ([], sym (append-nil sig.types))

pub returns-clause-along : goal.returns-clause-along
returns-clause-along c = λ x y z h k. (k.0 ++ h.0, h.1 ∙ (ap (λ xs. xs ++ h.0) k.1 ∙ append_assoc z.types k.0 h.0))
