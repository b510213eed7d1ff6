-- A machine that has let go what it had written down goes on as it would have.
use Rattle.std.proofs.Common.{◌⊎◌, inl, inr, List, ap}
use Rattle.script_lang.specs.declared.event.Event.{Event}
use Rattle.trace_entries.specs.declared.entry.Entry.{Entry}
use Rattle.trace_entries.specs.declared.fault.Answer.{Answer}
use Rattle.trace_entries.specs.declared.fault.Fault.{Fault}
use Rattle.machine_rules.specs.Natives.{NativeAnswers}
use Rattle.object_machine.proofs.Prefixes.{good-front, stops-front}
use Rattle.object_machine.specs.Seen.{Seen, Completes, Halts, Stays, with_front}

module _ {N : Type 0} {gives : N → NativeAnswers} (front : List Entry) where
  pub completes-front : {a b : Seen N} {es : List Event} {xs : List Answer} → Completes gives a es xs b → Completes gives (with_front front a) es xs (with_front front b)
  completes-front x = record {
    went = x.went;
    same = ap (with_front front) x.same;
    runs = good-front front x.runs;
    ends = record { empty = x.ends.empty; no_turn = x.ends.no_turn };
  }

  pub halts-front : {a b : Seen N} {es : List Event} {f : Fault} → Halts gives a es f b → Halts gives (with_front front a) es f (with_front front b)
  halts-front x = record {
    went = x.went;
    same = ap (with_front front) x.same;
    stack = x.stack;
    front = record {
      taken = x.front.taken;
      rest = x.front.rest;
      split = x.front.split;
      answers = x.front.answers;
      runs = good-front front x.front.runs;
    };
    cause = stops-front front x.cause;
  }

  pub stop-front : {a b : Seen N} {es : List Event} {f : Fault} → Halts gives a es f b ⊎ Stays a f b → Halts gives (with_front front a) es f (with_front front b) ⊎ Stays (with_front front a) f (with_front front b)
  stop-front (inl x) = inl (halts-front x)
  stop-front (inr x) = inr (record { stopped = x.stopped; answers = x.answers; same = ap (with_front front) x.same })
