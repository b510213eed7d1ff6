use Rattle.certificate_lang.proofs.Nodes.{setting_whole}
use Rattle.certificate_lang.proofs.Certificates.{is_so}
use Rattle.certificate_lang.proofs.reader.whole_setting.Goals as goal

pub returns-then-is_empty : goal.returns-then-is_empty
returns-then-is_empty c =
    let end = is_so c.is_empty.result c.if-is_empty.true c.is_empty.ensures in
    setting_whole (rw c.new-cursor.ensures at c.in_ok-number.ensures) end
