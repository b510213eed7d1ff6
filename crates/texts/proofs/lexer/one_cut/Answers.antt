use Rattle.texts.proofs.Cut.{same_tokens}
use Rattle.texts.proofs.lexer.one_cut.Goals as goal

pub returns : goal.returns
returns c = same_tokens
