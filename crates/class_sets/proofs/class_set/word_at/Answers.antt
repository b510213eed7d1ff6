use Rattle.std.proofs.Common.{Option, ℕ, unwrap_or, ap, ◌∙◌}
use Rattle.std.proofs.lemmas.Option.{unwrap_or-slice_get}
use Rattle.class_sets.proofs.class_set.word_at.Goals as goal

pub returns-in-None : goal.returns-in-None
returns-in-None c = ap (λ (o : Option ℕ). unwrap_or o 0) c.in-None.ensures.value ∙ unwrap_or-slice_get c.args.words.now c.args.place 0
