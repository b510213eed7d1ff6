use Rattle.std.proofs.Common.{length, refl}
use Rattle.std.proofs.lemmas.Option.{slice_get_read}
use Rattle.name_indexes.proofs.Indexing.{first_front, first_more, first_here, twins_here, none_twice}
use Rattle.name_indexes.proofs.twins.find_twins.Goals as goal

pub loop-place-init : goal.loop-place-init
loop-place-init g c = first_front g.T.Called.name_of g.T.Called.count_of c.args.items.now c.args.index.now c.args.inherited c.requires.indexed c.requires.once

pub loop-place-preserved : goal.loop-place-preserved
loop-place-preserved g c =
    let at = slice_get_read c.args.items.now (length c.args.items.now) c.loop-place.place c.index-items-place.result refl c.loop-place-test.true c.index-items-place.is in
    first_more g.T.Called.name_of g.T.Called.count_of c.args.items.now c.args.index.now c.loop-place.place c.index-items-place.result
    c.loop-place-test.true c.index-items-place.is
    (first_here g.T.Called.name_of g.T.Called.count_of c.args.items.now c.args.index.now c.requires.indexed c.loop-place.place c.index-items-place.result at c.in_default.ensures)
    c.loop-place.invariant

pub returns-in-Some : goal.returns-in-Some
returns-in-Some g c =
    let at = slice_get_read c.args.items.now (length c.args.items.now) c.loop-place.place c.index-items-place.result refl c.loop-place-test.true c.index-items-place.is in
    twins_here g.T.Called.name_of g.T.Called.count_of c.args.items.now c.args.index.now c.requires.indexed c.loop-place.place c.index-items-place.result at c.in-Some.first c.in-Some.ensures

pub returns : goal.returns
returns g c = λ two. none_twice g.T.Called.name_of g.T.Called.count_of c.args.items.now c.args.index.now _ c.loop-place-test.false c.loop-place.invariant two
