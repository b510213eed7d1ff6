use Rattle.std.proofs.Common.{◌≡◌, ◌∷◌, [], ◌++◌, sym, ◌∙◌, ap, subst, List}
use Rattle.event_loops.specs.Queues.{Queues, Loop, IsTaken, with_loop}
use Rattle.event_loops.specs.code.Rings.{loops_in, loops_of}
use Rattle.event_loops.specs.code.Marks.{since_of, visible, is_upto, AreUpto}
use Rattle.event_loops.specs.code.Counts.{AreCounted}
use Rattle.event_loops.specs.code.Sure.{AllAt, is_told}
use Rattle.event_loops.specs.code.Kept.{seen}
use Rattle.event_loops.specs.Numbers.{IsNumbered}
use Rattle.event_loops.proofs.Names.{shown-insert}
use Rattle.event_loops.proofs.Numbers.{IsNumbered-with_loop}
use Rattle.event_loops.proofs.Waiting.{name_at-visible, visible-with_loop, all-with_loop}
use Rattle.event_loops.proofs.Counted.{counted-with_loop}
use Rattle.event_loops.proofs.loops.Loops.append.Goals as goal

pub invariant_of-self-2 : goal.invariant_of-self-2
invariant_of-self-2 c =
    let since = since_of c.self.inside.marks in
    let rings : List Loop = loops_in c.self.inside.queues in
    let IsFree : Queues → Type 0 = λ s. ¬ IsTaken s.loops c.args.name.now in
    let free = subst IsFree (sym c.self.view_is) c.requires in
    let free_ring : ¬ IsTaken rings c.args.name.now = λ taken. free (taken.0, name_at-visible since rings taken.0 ∙ taken.1) in
    let added : loops_in c.insert.new.self ≡ rings ++ record { name = c.args.name.now; items = [] } ∷ [] =
    ap loops_of c.in_ok-insert.ensures.entries
    ∙ shown-insert c.self.inside.queues c.args.name.now c.in_ok-name.name c.new.result c.in_ok-name.ensures c.new.ensures.items free_ring in
    let Numbered : List Loop → Type 0 = λ loops. IsNumbered (record { loops = loops; posted = c.self.inside.posted }) in
    let Upto : List Loop → Type 0 = AreUpto c.self.inside.posted in
    let before : Queues = record { loops = seen c.self.inside.queues c.self.inside.marks; posted = c.self.inside.posted } in
    let Are : List Loop → Type 0 = λ loops. AreCounted loops c.self.inside.marks in
    record {
      kept = record {
        numbered = subst Numbered (sym (ap (visible since) added ∙ visible-with_loop since c.args.name.now rings))
            (IsNumbered-with_loop c.args.name.now before c.self.invariant.kept.numbered);
        within = record {
          upto = subst Upto (sym added) (all-with_loop c.args.name.now rings (is_upto c.self.inside.posted) c.self.invariant.kept.within.upto);
          marked = c.self.invariant.kept.within.marked;
        };
      };
      told = subst (AllAt (is_told c.self.inside.marks)) (sym added) (all-with_loop c.args.name.now rings (is_told c.self.inside.marks) c.self.invariant.told);
      counted = subst Are (sym (ap (visible since) added ∙ visible-with_loop since c.args.name.now rings)) (counted-with_loop c.args.name.now before.loops c.self.inside.marks c.self.invariant.counted);
    }

pub returns-clause-added : goal.returns-clause-added
returns-clause-added c =
    let since = since_of c.self.inside.marks in
    let rings : List Loop = loops_in c.self.inside.queues in
    let IsFree : Queues → Type 0 = λ s. ¬ IsTaken s.loops c.args.name.now in
    let free = subst IsFree (sym c.self.view_is) c.requires in
    let free_ring : ¬ IsTaken rings c.args.name.now = λ taken. free (taken.0, name_at-visible since rings taken.0 ∙ taken.1) in
    let with : List Loop → Queues = λ loops. record { loops = loops; posted = c.self.inside.posted } in
    ap with
    (ap (visible since)
    (ap loops_of c.in_ok-insert.ensures.entries
    ∙ shown-insert c.self.inside.queues c.args.name.now c.in_ok-name.name c.new.result c.in_ok-name.ensures c.new.ensures.items free_ring)
    ∙ visible-with_loop since c.args.name.now rings)
    ∙ ap (with_loop c.args.name.now) c.self.view_is
