use Rattle.std.proofs.Common.{◌≡◌, ℕ, sym, subst, ap, ◌∙◌, List, Option}
use Rattle.std.proofs.Math.Path.{fun_ext}
use Rattle.event_loops.specs.Queues.{Queues, Loop, taken_before}
use Rattle.event_loops.specs.code.Rings.{loops_in}
use Rattle.event_loops.specs.code.Marks.{since_of, visible, MarkedUpto}
use Rattle.event_loops.specs.code.Kept.{seen}
use Rattle.event_loops.specs.Numbers.{IsNumbered}
use Rattle.event_loops.specs.code.Counts.{AreCounted}
use Rattle.event_loops.specs.code.Sure.{AllAt, is_sure}
use Rattle.event_loops.proofs.Counted.{counted-taken}
use Rattle.event_loops.proofs.Numbers.{IsNumbered-taken}
use Rattle.event_loops.proofs.loops.Loops.take_before.Goals as goal

pub invariant_of-self : goal.invariant_of-self
invariant_of-self c =
    let posted = c.self.inside.posted in
    let before : Queues = record { loops = seen c.self.inside.queues c.self.inside.marks; posted = posted } in
    let rings = loops_in c.take_at-taken.new.queues in
    let alike : since_of c.count_taken.new.self ≡ since_of c.self.inside.marks = fun_ext c.count_taken.ensures.alike in
    let now : seen c.take_at-taken.new.queues c.count_taken.new.self ≡ (taken_before c.number.result c.args.number before).loops =
    ap (λ (since : ℕ → Option ℕ). visible since rings) alike ∙ c.take_at-taken.ensures.rest in
    let Numbered : List Loop → Type 0 = λ loops. IsNumbered (record { loops = loops; posted = posted }) in
    let within = c.take_at-taken.ensures.within posted c.self.invariant.kept.within in
    let bound = c.self.inside.marks.last_stale in
    let Told : ℕ → Type 0 = λ last. AllAt (is_sure last (since_of c.count_taken.new.self)) rings in
    let Alike : (ℕ → Option ℕ) → Type 0 = λ marked. AllAt (is_sure bound marked) rings in
    let Are : List Loop → Type 0 = λ loops. AreCounted loops c.count_taken.new.self in
    record {
      kept = record {
        numbered = subst Numbered (sym now) (IsNumbered-taken c.number.result c.args.number before c.self.invariant.kept.numbered);
        within = record { upto = within.upto; marked = subst (MarkedUpto posted) (sym alike) within.marked };
      };
      told = subst Told (sym c.count_taken.ensures.stale) (subst Alike (sym alike) c.take_at-taken.ensures.told);
      counted = subst Are (sym now) (counted-taken c.args.number c.number.result before.loops c.self.inside.marks c.count_taken.new.self c.take_at-taken.result c.take_at-taken.ensures.taken c.count_taken.ensures.counts c.self.invariant.counted);
    }

pub returns-clause-rest : goal.returns-clause-rest
returns-clause-rest c =
    let posted = c.self.inside.posted in
    let before : Queues = record { loops = seen c.self.inside.queues c.self.inside.marks; posted = posted } in
    let rings = loops_in c.take_at-taken.new.queues in
    let alike : since_of c.count_taken.new.self ≡ since_of c.self.inside.marks = fun_ext c.count_taken.ensures.alike in
    let now : seen c.take_at-taken.new.queues c.count_taken.new.self ≡ (taken_before c.args.home c.args.number before).loops =
    ap (λ (since : ℕ → Option ℕ). visible since rings) alike ∙ c.take_at-taken.ensures.rest
    ∙ ap (λ (h : ℕ). (taken_before h c.args.number before).loops) c.number.ensures in
    let with : List Loop → Queues = λ loops. record { loops = loops; posted = posted } in
    ap with now ∙ ap (taken_before c.args.home c.args.number) c.self.view_is
