use Rattle.std.proofs.Common.{◌∷◌}
use Rattle.name_indexes.proofs.Indexing.{calls_from, calls_same, calls_more, calls_all}
use Rattle.name_indexes.proofs.Marks.{none_marked, marked_more}
use Rattle.name_indexes.proofs.call_index.index_own.Goals as goal

pub loop-place-init : goal.loop-place-init
loop-place-init g c =
    rw c.new-own.ensures.items
    (calls_from g.T.Called.name_of g.T.Called.count_of c.args.items.now c.args.inherited c.args.base.now c.requires, none_marked c.in_ok-marks.marks)

pub loop-place-preserved : goal.loop-place-preserved
loop-place-preserved g c =
    let grown =
    calls_same g.T.Called.name_of g.T.Called.count_of c.args.items.now c.loop-place.place c.loop-place.own.items _ c.args.base.now c.in_ok-grow_past.ensures.same
    c.loop-place.invariant.0 in (
      calls_more g.T.Called.name_of g.T.Called.count_of c.args.items.now c.loop-place.place c.index-items-place.result c.loop-place-test.true c.index-items-place.is _ _
          (rw (c.called-name.ensures, c.count-count.ensures) at c.in_ok-add_call.ensures.added) grown,
      marked_more c.loop-place.marks _ c.loop-place.own.items _ _ _ c.loop-place.invariant.1 c.in_ok-grow_past.ensures.same c.in_ok-add_call.ensures.others
          (rw c.mark_of-mark.ensures at c.put.ensures.there) c.put.ensures.kept,
    )

pub of-requires : goal.of-requires
of-requires g c = rw c.from_vec.ensures c.loop-place.invariant.1

pub returns : goal.returns
returns g c =
    rw (c.of.ensures, c.from_vec.ensures)
    (calls_all g.T.Called.name_of g.T.Called.count_of c.args.items.now c.loop-place.place c.loop-place-test.false (c.loop-place.own.items ∷ c.args.base.now) c.loop-place.invariant.0)
