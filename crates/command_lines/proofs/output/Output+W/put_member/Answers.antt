use Rattle.std.proofs.Common.{◌∙◌, sym, codes}
use Rattle.command_lines.proofs.Sending.{kept_back, member_behind}
use Rattle.command_lines.proofs.output.Output+W.put_member.Goals as goal

pub returns-else-not-add_member : goal.returns-else-not-add_member
returns-else-not-add_member g c =
    kept_back _ _ _ _ (rw (c.bytes.ensures.value, c.bytes-2.ensures.value) at c.if-not-add_member.ensures.added ∙ sym (member_behind c.args.self.now.pending c.args.before.now c.args.object.now (codes ".") c.args.member.now c.args.behind.now))
