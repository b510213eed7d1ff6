use Rattle.std.proofs.Common.{ap, Err, refl}
use Rattle.std.proofs.lemmas.Result.{err_from_is_err_and}
use Rattle.slot_lang.proofs.OneAnswer.{not_parsed, not_true}
use Rattle.slot_lang.proofs.body.parse_body.Goals as goal

pub returns-in_err-body : goal.returns-in_err-body
returns-in_err-body c =
    let p = err_from_is_err_and c.from_residual.result c.from_residual.ensures.1 in
    rw (p.1, p.2) (not_parsed c.args.tokens.now c.in_err-body.field-0.0 (λ e. c.in_err-body.ensures.refused (ap Err e)))

pub returns-then-not-body_has_few_parameters : goal.returns-then-not-body_has_few_parameters
returns-then-not-body_has_few_parameters c =
    let seen = c.as_slice.ensures in
    record {
      body = c.in_ok-body.body;
      normal = record { reads = c.in_ok-body.ensures.read; constant = not_true c.if-has_plain_reference.ensures };
      many = not_true (rw seen at c.if-not-body_has_few_parameters.ensures);
    }

pub returns : goal.returns
returns c =
    let seen = c.as_slice.ensures in
    let few = rw seen at c.if-not-body_has_few_parameters.ensures in
    record {
      normal = record { reads = c.in_ok-body.ensures.read; constant = not_true c.if-has_plain_reference.ensures };
      few = few.0 refl;
    }
