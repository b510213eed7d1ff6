use Rattle.std.proofs.lemmas.Fmt.{decimal_digit}
use Rattle.command_lines.proofs.Sending.{as_text}
use Rattle.command_lines.proofs.line.Output+W.depth.Goals as goal

pub returns-then-depth-lt10 : goal.returns-then-depth-lt10
returns-then-depth-lt10 g c = as_text c.put_byte.ensures (decimal_digit c.args.depth c.if-depth-lt10.true)
