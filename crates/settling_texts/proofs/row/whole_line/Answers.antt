use Rattle.certificate_lang.proofs.Certificates.{is_so, is_not_so}
use Rattle.settling_texts.proofs.OneTree.{line_whole, line_many}
use Rattle.settling_texts.proofs.row.whole_line.Goals as goal

pub returns-then-has_few_parameters : goal.returns-then-has_few_parameters
returns-then-has_few_parameters c =
    let end = is_so c.is_empty.result c.if-not-is_empty.false c.is_empty.ensures in
    let few = is_so c.has_few_parameters.result c.if-has_few_parameters.true c.has_few_parameters.ensures in
    let normal = is_not_so c.has_plain_reference.result c.if-has_plain_reference.false c.has_plain_reference.ensures in
    line_whole (rw c.new-cursor.ensures at c.in_ok-line.ensures) end few normal

pub returns : goal.returns
returns c =
    let end = is_so c.is_empty.result c.if-not-is_empty.false c.is_empty.ensures in
    let many = is_not_so c.has_few_parameters.result c.if-has_few_parameters.false c.has_few_parameters.ensures in
    line_many (rw c.new-cursor.ensures at c.in_ok-line.ensures) end many
