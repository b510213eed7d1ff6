use Rattle.prop_bindings.specs.Changes.{one}
use Rattle.prop_bindings.proofs.writes.plan_one.Goals as goal

pub plan_given-requires-clause-given : goal.plan_given-requires-clause-given
plan_given-requires-clause-given c =
    let may = c.requires.may in
    (may.0, one c.args.place.now c.args.value, record { agree = may.1; fits = (may.2, tt); given = c.in_ok-values.ensures })

pub returns : goal.returns
returns c = λ p agree fits. c.in_ok-planned.ensures p (one c.args.place.now c.args.value) (record { agree = agree; fits = (fits, tt); given = c.in_ok-values.ensures })
