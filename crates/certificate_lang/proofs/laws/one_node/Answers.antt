use Rattle.certificate_lang.proofs.Lines.{node_is_read}
use Rattle.certificate_lang.proofs.OneNode.{one_node}
use Rattle.certificate_lang.proofs.laws.one_node.Goals as goal

pub returns-clause-read : goal.returns-clause-read
returns-clause-read c = node_is_read

pub returns-clause-one : goal.returns-clause-one
returns-clause-one c = one_node
