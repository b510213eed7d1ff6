use Rattle.std.proofs.Common.{sym, subst, List}
use Rattle.event_loops.specs.Queues.{Queues, Loop}
use Rattle.event_loops.specs.code.Kept.{seen}
use Rattle.event_loops.specs.Numbers.{IsNumbered}
use Rattle.event_loops.proofs.Numbers.{IsNumbered-dropped}
use Rattle.event_loops.proofs.loops.Loops.drop_object.Goals as goal

pub invariant_of-self : goal.invariant_of-self
invariant_of-self c =
    let Numbered : List Loop → Type 0 = λ loops. IsNumbered (record { loops = loops; posted = c.self.inside.posted }) in
    let before : Queues = record { loops = seen c.self.inside.queues c.self.inside.marks; posted = c.self.inside.posted } in
    record {
      kept = record {
        numbered = subst Numbered (sym c.forget.ensures.dropped) (IsNumbered-dropped c.args.object before c.self.invariant.kept.numbered);
        within = c.forget.ensures.within c.self.inside.posted c.self.invariant.kept.within;
      };
      told = c.forget.ensures.told;
      counted = c.forget.ensures.counted;
    }
