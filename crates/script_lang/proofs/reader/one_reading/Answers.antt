use Rattle.script_lang.proofs.OneAnswer.{one_content, one_list}
use Rattle.script_lang.proofs.reader.one_reading.Goals as goal

pub returns : goal.returns
returns c = record { line = one_content; script = one_list }
