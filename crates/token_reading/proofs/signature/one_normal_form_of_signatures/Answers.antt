use Rattle.token_reading.proofs.SignatureCuts.{normal_forms_are_in_tokens}
use Rattle.token_reading.proofs.SignatureTexts.{tokens_give_normal_forms}
use Rattle.token_reading.proofs.signature.one_normal_form_of_signatures.Goals as goal

pub returns : goal.returns
returns c = record { given = tokens_give_normal_forms; read = normal_forms_are_in_tokens }
