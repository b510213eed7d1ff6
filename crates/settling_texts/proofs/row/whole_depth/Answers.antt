use Rattle.certificate_lang.proofs.Certificates.{is_so}
use Rattle.settling_texts.proofs.OneTree.{depth_whole}
use Rattle.settling_texts.proofs.row.whole_depth.Goals as goal

pub returns-then-is_empty : goal.returns-then-is_empty
returns-then-is_empty c =
    let end = is_so c.is_empty.result c.if-is_empty.true c.is_empty.ensures in
    depth_whole (rw c.new-cursor.ensures at c.in_ok-depth.ensures) end
