use Rattle.std.proofs.Common.{rules, ◌≡◌, ◌∙◌, sym}
use Rattle.std.specs.Option.{option_copied}
use Rattle.prop_bindings.specs.code.Parts.{value_ahead}
use Rattle.prop_bindings.proofs.Assigned.{ahead-values, given-ahead, own-ahead}
use Rattle.prop_bindings.proofs.ahead.value_ahead.Goals as goal

pub returns-in-Some-clause-ahead : goal.returns-in-Some-clause-ahead
returns-in-Some-clause-ahead c = given-ahead c.args.values.now c.args.objects.now c.args.place.now c.in_ok-own.own.now c.in_ok-own.ensures c.in-Some.value.now c.in-Some.ensures

pub returns-in-None-clause-ahead : goal.returns-in-None-clause-ahead
returns-in-None-clause-ahead c = own-ahead c.args.values.now c.args.objects.now c.args.place.now c.in_ok-own.own.now c.in_ok-own.ensures c.in-None.ensures

pub returns-in-Some-clause-value : goal.returns-in-Some-clause-value
returns-in-Some-clause-value c = given-ahead c.args.values.now c.args.objects.now c.args.place.now c.in_ok-own.own.now c.in_ok-own.ensures c.in-Some.value.now c.in-Some.ensures
    ∙ sym (ahead-values c.args.values.now c.args.objects.now c.args.place.now)

pub returns-in-None-clause-value : goal.returns-in-None-clause-value
returns-in-None-clause-value c = own-ahead c.args.values.now c.args.objects.now c.args.place.now c.in_ok-own.own.now c.in_ok-own.ensures c.in-None.ensures
    ∙ sym (ahead-values c.args.values.now c.args.objects.now c.args.place.now)

pub returns-in_err-own-clause-value : goal.returns-in_err-own-clause-value
returns-in_err-own-clause-value c =
    let none : option_copied c.from_residual.result ≡ value_ahead c.args.values.now c.args.objects.now c.args.place.now = search rules in
    none ∙ sym (ahead-values c.args.values.now c.args.objects.now c.args.place.now)
