use Rattle.connections.proofs.Standing.{tidies-written}
use Rattle.connections.proofs.groups.forget_places.Goals as goal

pub returns-in-Some : goal.returns-in-Some
returns-in-Some g c = tidies-written g.K.PartialEq.eq c.args.groups.now c.in-Some.index c.args.key g.met.K.Eq.laws c.pair_mut-places.ensures.unique c.in-Some.ensures.found _ _ c.forget.new.self c.pair_mut-places.ensures.value c.args.cells.now c.forget.ensures
