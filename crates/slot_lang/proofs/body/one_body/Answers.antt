use Rattle.slot_lang.proofs.Unique.{one_body_tree}
use Rattle.slot_lang.proofs.body.one_body.Goals as goal

pub returns : goal.returns
returns c = one_body_tree
