use Rattle.prop_bindings.proofs.Giving.{given-one}
use Rattle.prop_bindings.proofs.writes.give_one.Goals as goal

pub returns : goal.returns
returns c = given-one c.in_ok-values.values c.insert.new.self c.args.place.now c.args.value c.key.result c.key.ensures c.in_ok-values.ensures.empty c.in_ok-insert.ensures.updates.0
