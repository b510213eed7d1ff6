use Rattle.command_lines.proofs.Sending.{sent}
use Rattle.command_lines.proofs.output.Output+W.pass_member_on.Goals as goal

pub returns : goal.returns
returns g c = sent (sent c.put.ensures c.member.ensures) c.put-2.ensures
