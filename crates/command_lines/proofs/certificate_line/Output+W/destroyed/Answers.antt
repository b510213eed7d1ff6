use Rattle.certificate_lang.specs.Texts.{listed_text}
use Rattle.command_lines.proofs.Sending.{sent, one_item}
use Rattle.command_lines.proofs.certificate_line.Output+W.destroyed.Goals as goal

pub loop-item-preserved : goal.loop-item-preserved
loop-item-preserved g c = one_item listed_text _ _ _ c.item-item.result c.loop-item-test.true c.item-item.is c.loop-item.invariant (sent c.put_byte.ensures c.set_item.ensures)
