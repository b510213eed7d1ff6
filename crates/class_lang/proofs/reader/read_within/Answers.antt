use Rattle.std.proofs.Common.{ap, Err, refl}
use Rattle.std.proofs.lemmas.Result.{err_from_is_err_and}
use Rattle.class_lang.proofs.Stages.{not_cut, not_parsed, too_many, too_large, not_true}
use Rattle.class_lang.proofs.reader.read_within.Goals as goal

pub returns-in_err-tokens : goal.returns-in_err-tokens
returns-in_err-tokens c =
    let p = err_from_is_err_and c.from_residual.result c.from_residual.ensures.1 in
    rw (p.1, p.2) (not_cut c.args.limits c.args.bytes.now c.in_err-tokens.field-0.0 c.if-bytes-limits.false (λ e. c.in_err-tokens.ensures.refused (ap Err e)))

pub returns-in_err-program : goal.returns-in_err-program
returns-in_err-program c =
    let p = err_from_is_err_and c.from_residual-in_err-program.result c.from_residual-in_err-program.ensures.1 in
    let seen = c.as_slice.ensures in
    let again = c.as_slice-2.ensures in
    let flat = rw seen at c.if-nesting.ensures in
    rw (p.1, p.2) (not_parsed c.args.limits c.args.bytes.now c.in_ok-tokens.tokens c.in_err-program.field-0.0 c.if-bytes-limits.false c.in_ok-tokens.ensures.cut (not_true flat) (λ e. rw again at (c.in_err-program.ensures.refused (ap Err e))))

pub returns-then-not-has_few_parameters : goal.returns-then-not-has_few_parameters
returns-then-not-has_few_parameters c =
    let seen = c.as_slice.ensures in
    let again = c.as_slice-2.ensures in
    let third = c.as_slice-3.ensures in
    let flat = rw seen at c.if-nesting.ensures in
    let constant = rw third at c.if-has_plain_reference.ensures in
    too_many c.args.limits c.args.bytes.now c.in_ok-tokens.tokens c.in_ok-program.program c.if-bytes-limits.false c.in_ok-tokens.ensures.cut (not_true flat) (rw again at c.in_ok-program.ensures.read) (not_true constant) (not_true c.if-not-has_few_parameters.ensures)

pub returns-then-not-is_within_limits : goal.returns-then-not-is_within_limits
returns-then-not-is_within_limits c =
    let seen = c.as_slice.ensures in
    let again = c.as_slice-2.ensures in
    let third = c.as_slice-3.ensures in
    let flat = rw seen at c.if-nesting.ensures in
    let constant = rw third at c.if-has_plain_reference.ensures in
    too_large c.args.limits c.args.bytes.now c.in_ok-tokens.tokens c.in_ok-program.program c.if-bytes-limits.false c.in_ok-tokens.ensures.cut (not_true flat) (rw again at c.in_ok-program.ensures.read) (not_true constant) (c.if-not-has_few_parameters.ensures.0 refl) (not_true c.if-not-is_within_limits.ensures)
