use Rattle.std.proofs.Common.{sym, ◌∙◌}
use Rattle.basic_types.proofs.Tokens.{word_next}
use Rattle.signatures.proofs.scanner.Scanner.next.Goals as goal

pub returns-then-is_name_byte : goal.returns-then-is_name_byte
returns-then-is_name_byte c =
    sym c.loop-first.invariant
    ∙ word_next c.loop-first.rest.now c.split_word.result.0.now c.split_word.result.1.now c.in-Some.first.now c.in-Some.after.now c.in-Some.ensures.cases.0 (sym c.if-is_name_byte.ensures) c.split_word.ensures
