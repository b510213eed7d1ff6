use Rattle.std.proofs.Common.{◌∙◌}
use Rattle.std.proofs.lemmas.Option.{none-some}
use Rattle.class_outlines.proofs.twin_members.own_method.Goals as goal

pub returns-in_default : goal.returns-in_default
returns-in_default c = λ class at inside. absurd (none-some class (c.in_default.ensures.value ∙ at))
