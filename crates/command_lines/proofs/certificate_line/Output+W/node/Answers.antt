use Rattle.command_lines.proofs.certificate_line.Output+W.node.Goals as goal

pub returns-in-Destruction : goal.returns-in-Destruction
returns-in-Destruction g c = rw c.in-Destruction.is c.tilde_name.ensures
