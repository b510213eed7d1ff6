use Rattle.std.proofs.Common.{◌≡◌, [], ◌++◌, ◌∙◌, sym, ap}
use Rattle.std.proofs.lemmas.List.{nil_from_length}
use Rattle.std.proofs.Common.{eqb-true}
use Rattle.command_lines.specs.Lines.{newline, call_text, member_text}
use Rattle.command_lines.proofs.Sending.{sent, as_text, call_gathered, no_arguments}
use Rattle.command_lines.proofs.line.Output+W.call_line.Goals as goal

pub returns-then-is_empty : goal.returns-then-is_empty
returns-then-is_empty g c =
    let member = member_text c.args.object.now c.args.method.now in
    let empty : c.args.arguments.now ≡ [] = nil_from_length c.args.arguments.now (eqb-true _ _ (sym c.is_empty.ensures ∙ c.if-is_empty.true)) in
    as_text c.put_member.ensures (ap (λ arguments. c.args.word.now ++ call_text member arguments ++ newline) empty ∙ no_arguments c.args.word.now member)

pub returns-else-is_empty : goal.returns-else-is_empty
returns-else-is_empty g c = as_text (sent (sent c.put_member-else-is_empty.ensures c.arguments.ensures) c.put_word.ensures) (call_gathered _ _ _)
