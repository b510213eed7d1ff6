use Rattle.std.proofs.Common.{◌≡◌, ◌+◌, true, List, ℕ, refl, sym, subst, ◌∙◌, ap}
use Rattle.event_loops.specs.declared.item.Posted.{Posted}
use Rattle.event_loops.specs.Queues.{Loop, next_item, with_item, change}
use Rattle.event_loops.specs.code.Rings.{loops_in}
use Rattle.event_loops.specs.code.Marks.{since_of, waits, visible, AreUpto}
use Rattle.event_loops.specs.code.Counts.{AreCounted, CountsMore}
use Rattle.event_loops.specs.code.Sure.{AllAt, is_sure}
use Rattle.event_loops.proofs.Entries.{OnErr-always}
use Rattle.event_loops.proofs.Waiting.{visible-noted, visible-posted, waits-noted, upto-posted, marked-noted, marked-more}
use Rattle.event_loops.proofs.Told.{all_at-more, all-posted, sure-waits, sure-after}
use Rattle.event_loops.proofs.Counted.{counted-more, counted-posted}
use Rattle.event_loops.proofs.rings.post_at.Goals as goal

pub returns-in_err-push_at-clause-err : goal.returns-in_err-push_at-clause-err
returns-in_err-push_at-clause-err c =
    let old = since_of c.args.marks.now in
    let new = since_of c.note.new.self in
    OnErr-always c.from_residual-in_err-push_at.result
    (ap (visible new) c.in_err-push_at.ensures.err
    ∙ visible-noted old new c.object.result c.args.posted c.in_ok-note.ensures.ok (loops_in c.args.queues.now) c.requires.within.upto)

pub returns-clause-pushed : goal.returns-clause-pushed
returns-clause-pushed c =
    let old = since_of c.args.marks.now in
    let new = since_of c.note.new.self in
    let next : Posted = next_item c.args.posted c.args.item in
    let told : waits new next ≡ true = waits-noted old new c.object.result c.args.posted c.in_ok-note.ensures.ok c.requires.within.marked next c.object.ensures refl in
    ap (visible new) c.in_ok-push_at.ensures.pushed
    ∙ visible-posted new next told c.number-2.result (loops_in c.args.queues.now)
    ∙ ap (λ home. change home (with_item next) (visible new (loops_in c.args.queues.now))) c.number-2.ensures
    ∙ ap (change c.args.home (with_item next)) (visible-noted old new c.object.result c.args.posted c.in_ok-note.ensures.ok (loops_in c.args.queues.now) c.requires.within.upto)

pub returns-clause-within : goal.returns-clause-within
returns-clause-within c =
    let old = since_of c.args.marks.now in
    let new = since_of c.note.new.self in
    let next : Posted = next_item c.args.posted c.args.item in
    let Upto : List Loop → Type 0 = AreUpto (c.args.posted + 1) in
    record {
      upto = subst Upto (sym c.in_ok-push_at.ensures.pushed) (upto-posted c.args.posted c.number-2.result next (loops_in c.args.queues.now) refl c.requires.within.upto);
      marked = marked-more new c.args.posted (marked-noted old new c.object.result c.args.posted c.in_ok-note.ensures.ok c.requires.within.marked);
    }

pub returns-in_err-push_at-clause-told : goal.returns-in_err-push_at-clause-told
returns-in_err-push_at-clause-told c =
    let old = since_of c.args.marks.now in
    let new = since_of c.note.new.self in
    let bound = c.args.marks.now.last_stale in
    let Told : ℕ → Type 0 = λ last. AllAt (is_sure last new) (loops_in c.push_at.new.queues) in
    subst Told (sym c.note.ensures.stale)
    (subst (AllAt (is_sure bound new)) (sym c.in_err-push_at.ensures.err)
    (all_at-more (is_sure bound old) (is_sure bound new) (sure-after old new bound c.object.result c.args.posted c.in_ok-note.ensures.ok) (loops_in c.args.queues.now) c.requires.told))

pub returns-clause-told : goal.returns-clause-told
returns-clause-told c =
    let old = since_of c.args.marks.now in
    let new = since_of c.note.new.self in
    let bound = c.args.marks.now.last_stale in
    let next : Posted = next_item c.args.posted c.args.item in
    let told : waits new next ≡ true = waits-noted old new c.object.result c.args.posted c.in_ok-note.ensures.ok c.requires.within.marked next c.object.ensures refl in
    let Told : ℕ → Type 0 = λ last. AllAt (is_sure last new) (loops_in c.push_at.new.queues) in
    subst Told (sym c.note.ensures.stale)
    (subst (AllAt (is_sure bound new)) (sym c.in_ok-push_at.ensures.pushed)
    (all-posted (is_sure bound new) next (sure-waits bound new next told) c.number-2.result (loops_in c.args.queues.now)
    (all_at-more (is_sure bound old) (is_sure bound new) (sure-after old new bound c.object.result c.args.posted c.in_ok-note.ensures.ok) (loops_in c.args.queues.now) c.requires.told)))

pub returns-in_err-push_at-clause-counted : goal.returns-in_err-push_at-clause-counted
returns-in_err-push_at-clause-counted c =
    let old = since_of c.args.marks.now in
    let new = since_of c.note.new.self in
    let now = ap (visible new) c.in_err-push_at.ensures.err
    ∙ visible-noted old new c.object.result c.args.posted c.in_ok-note.ensures.ok (loops_in c.args.queues.now) c.requires.within.upto in
    let Are : List Loop → Type 0 = λ loops. AreCounted loops c.note.new.self in
    subst Are (sym now) (counted-more (visible old (loops_in c.args.queues.now)) c.args.marks.now c.note.new.self c.object.result c.in_ok-note.ensures.counts c.requires.counted)

pub returns-clause-counted : goal.returns-clause-counted
returns-clause-counted c =
    let Are : List Loop → Type 0 = λ loops. AreCounted loops c.note.new.self in
    let More : ℕ → Type 0 = λ o. CountsMore o c.args.marks.now c.note.new.self in
    let before = visible (since_of c.args.marks.now) (loops_in c.args.queues.now) in
    let old = since_of c.args.marks.now in
    let new = since_of c.note.new.self in
    let next : Posted = next_item c.args.posted c.args.item in
    let told : waits new next ≡ true = waits-noted old new c.object.result c.args.posted c.in_ok-note.ensures.ok c.requires.within.marked next c.object.ensures refl in
    let now = ap (visible new) c.in_ok-push_at.ensures.pushed
    ∙ visible-posted new next told c.number-2.result (loops_in c.args.queues.now)
    ∙ ap (λ home. change home (with_item next) (visible new (loops_in c.args.queues.now))) c.number-2.ensures
    ∙ ap (change c.args.home (with_item next)) (visible-noted old new c.object.result c.args.posted c.in_ok-note.ensures.ok (loops_in c.args.queues.now) c.requires.within.upto) in
    subst Are (sym now)
    (counted-posted c.args.home (next_item c.args.posted c.args.item) before c.args.marks.now c.note.new.self (subst More c.object.ensures c.in_ok-note.ensures.counts) c.requires.counted)
