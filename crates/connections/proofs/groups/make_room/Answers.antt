use Rattle.std.proofs.lemmas.Result.{on_ok_weaker}
use Rattle.connections.proofs.Standing.{keeps-written, room-written, rooms-written}
use Rattle.connections.proofs.groups.make_room.Goals as goal

pub returns-in-Some-clause-room : goal.returns-in-Some-clause-room
returns-in-Some-clause-room g c = on_ok_weaker c.reserve.result (room-written g.K.PartialEq.eq c.args.groups.now c.in-Some.index c.args.key g.met.K.Eq.laws c.pair_mut-places.ensures.unique c.in-Some.ensures.found c.reserve.new.self) c.reserve.ensures.room

pub returns-in-Some-clause-others : goal.returns-in-Some-clause-others
returns-in-Some-clause-others g c = on_ok_weaker c.reserve.result (rooms-written g.K.PartialEq.eq c.args.groups.now c.in-Some.index c.args.key g.met.K.Eq.laws c.pair_mut-places.ensures.unique c.in-Some.ensures.found c.reserve.new.self) c.reserve.ensures.room

pub returns-in-Some-clause-lists : goal.returns-in-Some-clause-lists
returns-in-Some-clause-lists g c = keeps-written g.K.PartialEq.eq c.args.groups.now c.in-Some.index c.args.key g.met.K.Eq.laws c.pair_mut-places.ensures.unique c.in-Some.ensures.found _ _ c.reserve.new.self c.pair_mut-places.ensures.value c.reserve.ensures.items
