use Rattle.std.proofs.Common.{ℕ, List, sym, subst, ◌∙◌}
use Rattle.event_loops.specs.code.Rings.{loops_in}
use Rattle.event_loops.specs.code.Marks.{since_of, visible, is_upto}
use Rattle.event_loops.specs.Queues.{Loop}
use Rattle.event_loops.specs.code.Counts.{AreCounted}
use Rattle.event_loops.specs.code.Sure.{AllAt, is_sure}
use Rattle.event_loops.proofs.Waiting.{visible-forgotten, marked-forgotten}
use Rattle.event_loops.proofs.Told.{all_at-more, sure-upto, sure-alike, forgets-none}
use Rattle.event_loops.proofs.Counted.{counted-dropped}
use Rattle.event_loops.proofs.rings.forget.Goals as goal

pub returns-in-None-clause-dropped : goal.returns-in-None-clause-dropped
returns-in-None-clause-dropped c =
    visible-forgotten (since_of c.args.marks.now) (since_of c.forget.new.self) c.args.object c.forget.ensures.forgets (loops_in c.args.queues.now)

pub returns-in-None-clause-within : goal.returns-in-None-clause-within
returns-in-None-clause-within c = λ last w. record {
  upto = w.upto;
  marked = marked-forgotten (since_of c.args.marks.now) (since_of c.forget.new.self) c.args.object last c.forget.ensures.forgets w.marked;
}

pub returns-in-Some-clause-dropped : goal.returns-in-Some-clause-dropped
returns-in-Some-clause-dropped c =
    c.trim_at.ensures.seen
    ∙ visible-forgotten (since_of c.args.marks.now) (since_of c.forget.new.self) c.args.object c.forget.ensures.forgets (loops_in c.args.queues.now)

pub returns-in-Some-clause-within : goal.returns-in-Some-clause-within
returns-in-Some-clause-within c = λ last w. c.trim_at.ensures.within last (record {
  upto = w.upto;
  marked = marked-forgotten (since_of c.args.marks.now) (since_of c.forget.new.self) c.args.object last c.forget.ensures.forgets w.marked;
})

-- each item in the rings has at most the number up to which they may be stale now
pub trim_at-requires : goal.trim_at-requires
trim_at-requires c =
    all_at-more (is_upto c.args.posted) (is_sure c.args.posted (since_of c.forget.new.self)) (sure-upto c.args.posted (since_of c.forget.new.self)) (loops_in c.args.queues.now) c.requires.within.upto

pub returns-in-None-clause-told : goal.returns-in-None-clause-told
returns-in-None-clause-told c =
    let old = since_of c.args.marks.now in
    let new = since_of c.forget.new.self in
    let bound = c.args.marks.now.last_stale in
    let Told : ℕ → Type 0 = λ last. AllAt (is_sure last new) (loops_in c.args.queues.now) in
    subst Told (sym c.forget.ensures.stale)
    (all_at-more (is_sure bound old) (is_sure bound new) (sure-alike old new (forgets-none old new c.args.object c.forget.ensures.forgets (c.forget.ensures.none c.in-None.is)) bound) (loops_in c.args.queues.now) c.requires.told)

pub returns-in-None-clause-counted : goal.returns-in-None-clause-counted
returns-in-None-clause-counted c =
    let before = visible (since_of c.args.marks.now) (loops_in c.args.queues.now) in
    let Are : List Loop → Type 0 = λ loops. AreCounted loops c.forget.new.self in
    subst Are (sym (visible-forgotten (since_of c.args.marks.now) (since_of c.forget.new.self) c.args.object c.forget.ensures.forgets (loops_in c.args.queues.now)))
    (counted-dropped c.args.object before c.args.marks.now c.forget.new.self c.forget.ensures.counts c.requires.counted)

pub returns-in-Some-clause-counted : goal.returns-in-Some-clause-counted
returns-in-Some-clause-counted c =
    let before = visible (since_of c.args.marks.now) (loops_in c.args.queues.now) in
    let Are : List Loop → Type 0 = λ loops. AreCounted loops c.forget.new.self in
    subst Are (sym (c.trim_at.ensures.seen ∙ visible-forgotten (since_of c.args.marks.now) (since_of c.forget.new.self) c.args.object c.forget.ensures.forgets (loops_in c.args.queues.now)))
    (counted-dropped c.args.object before c.args.marks.now c.forget.new.self c.forget.ensures.counts c.requires.counted)
