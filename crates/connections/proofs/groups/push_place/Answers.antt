use Rattle.connections.proofs.Standing.{pushes-written, others-written, room-there}
use Rattle.connections.proofs.groups.push_place.Goals as goal

pub push-requires : goal.push-requires
push-requires g c = room-there g.K.PartialEq.eq c.args.groups.now c.in-Some.index c.args.key g.met.K.Eq.laws c.pair_mut-places.ensures.unique c.in-Some.ensures.found _ _ c.pair_mut-places.ensures.value c.requires

pub returns-in-Some-clause-lists : goal.returns-in-Some-clause-lists
returns-in-Some-clause-lists g c = pushes-written g.K.PartialEq.eq c.args.groups.now c.in-Some.index c.args.key g.met.K.Eq.laws c.pair_mut-places.ensures.unique c.in-Some.ensures.found _ _ c.push.new.self c.pair_mut-places.ensures.value c.args.place c.push.ensures

pub returns-in-Some-clause-others : goal.returns-in-Some-clause-others
returns-in-Some-clause-others g c = others-written g.K.PartialEq.eq c.args.groups.now c.in-Some.index c.args.key g.met.K.Eq.laws c.pair_mut-places.ensures.unique c.in-Some.ensures.found c.push.new.self
