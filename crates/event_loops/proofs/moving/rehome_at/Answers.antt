use Rattle.std.proofs.Common.{List, Result, Ok, Err, OnOk, eqb, ap, ◌∙◌}
use Rattle.std.proofs.lemmas.Result.{on_err_weaker}
use Rattle.indexmap.specs.IndexSet.{contains}
use Rattle.event_loops.specs.declared.item.Posted.{Posted}
use Rattle.event_loops.specs.Queues.{Loop, change, with_items}
use Rattle.event_loops.specs.code.Rings.{loops_in}
use Rattle.event_loops.proofs.Entries.{put-twice, put-same}
use Rattle.event_loops.proofs.Rehoming.{gathered-by}
use Rattle.event_loops.proofs.moving.rehome_at.Goals as goal

-- the ring is put back
pub returns-clause-err : goal.returns-clause-err
returns-clause-err c =
    let home = c.args.home in
    let loops = loops_in c.args.queues.now in
    let ring = c.gather-gathered.new.ring.items in
    on_err_weaker c.gather-gathered.result
    (λ still.
    c.replace_at.ensures.put
    ∙ ap (λ (ls : List Loop). change home (with_items (λ items. ring)) ls) (still.0 ∙ c.replace_at-ring.ensures.put)
    ∙ put-twice c.new.result.items ring home loops
    ∙ ap (λ (items : List Posted). change home (with_items (λ _. items)) loops) (still.1 ∙ c.replace_at-ring.ensures.old)
    ∙ put-same home loops)
    c.gather-gathered.ensures.err

both : {T E P Q R : Type 0} (r : Result T E) → (P → Q → R) → OnOk r P → OnOk r Q → OnOk r R
both (Ok x) f p q = f p q
both (Err e) f p q = tt

pub returns-clause-gathered : goal.returns-clause-gathered
returns-clause-gathered c =
    both c.gather-gathered.result
    (λ left moved.
    gathered-by (contains eqb c.args.going.now) c.args.home (loops_in c.args.queues.now) (loops_in c.replace_at-ring.new.queues) (loops_in c.gather-gathered.new.queues) (loops_in c.replace_at.new.queues)
    c.replace_at-ring.result.items c.gather-gathered.new.ring.items c.new.result.items c.new.ensures.items c.replace_at-ring.ensures.put c.replace_at-ring.ensures.old left moved c.replace_at.ensures.put)
    c.gather-gathered.ensures.left c.gather-gathered.ensures.moved
