use Rattle.token_reading.proofs.Listed.{behind_word}
use Rattle.token_reading.proofs.lists.list_after.Goals as goal

pub returns-then-eat_word-clause-reads : goal.returns-then-eat_word-clause-reads
returns-then-eat_word-clause-reads g c =
    let p = g.P.Part in
    behind_word p.spell p.tree p.Ends c.requires c.if-eat_word.ensures.found c.parts.result c.parts.new.cursor c.parts.ensures.reads
