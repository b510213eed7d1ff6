use Rattle.signatures.proofs.OneAnswer.{one_normal, one_answer}
use Rattle.signatures.proofs.reader.one_normal_form.Goals as goal

pub returns-clause-one : goal.returns-clause-one
returns-clause-one c = one_normal

pub returns-clause-few : goal.returns-clause-few
returns-clause-few c = λ text sig h. h.few

pub returns-clause-answer : goal.returns-clause-answer
returns-clause-answer c = one_answer
