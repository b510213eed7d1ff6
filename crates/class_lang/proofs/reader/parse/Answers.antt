use Rattle.class_lang.proofs.DeclarationLists.{whole}
use Rattle.class_lang.proofs.reader.parse.Goals as goal

pub returns-clause-read : goal.returns-clause-read
returns-clause-read c = let same = c.new.ensures in rw same at (whole c.new.result c.program.new.cursor c.program.result c.program.ensures.reads c.program.ensures.at_end)
