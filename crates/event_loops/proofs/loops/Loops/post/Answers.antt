use Rattle.std.proofs.Common.{◌+◌, ◌-◌, ◌<◌, ◌^◌, sym, subst, List}
use Rattle.event_loops.specs.Queues.{Queues, Loop}
use Rattle.event_loops.specs.code.Kept.{seen}
use Rattle.event_loops.specs.Numbers.{IsNumbered}
use Rattle.event_loops.proofs.Numbers.{IsNumbered-posted}
use Rattle.event_loops.proofs.loops.Loops.post.Goals as goal

pub invariant_of-self-2 : goal.invariant_of-self-2
invariant_of-self-2 c =
    let HasRoom : Queues → Type 0 = λ s. s.posted < 2 ^ 63 - 1 in
    let room = subst HasRoom (sym c.self.view_is) c.requires in
    let Numbered : List Loop → Type 0 = λ loops. IsNumbered (record { loops = loops; posted = c.self.inside.posted + 1 }) in
    let before : Queues = record { loops = seen c.self.inside.queues c.self.inside.marks; posted = c.self.inside.posted } in
    record {
      kept = record {
        numbered = subst Numbered (sym c.in_ok-post_at.ensures.pushed) (IsNumbered-posted c.args.home c.args.item before room c.self.invariant.kept.numbered);
        within = c.in_ok-post_at.ensures.within;
      };
      told = c.in_ok-post_at.ensures.told;
      counted = c.in_ok-post_at.ensures.counted;
    }
