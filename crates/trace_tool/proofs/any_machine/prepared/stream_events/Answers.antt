use Rattle.std.proofs.Common.{◌≡◌, ◌+◌, ◌++◌, ◌∷◌, List, take, drop, sym, ap, ◌∙◌, take-append-drop}
use Rattle.std.proofs.lemmas.List.{take_more, drop_more}
use Rattle.script_lang.specs.declared.event.Event.{Event}
use Rattle.trace_tool.proofs.Streaming.{streams-none, streams-stopped, streams-more, streams-stop, streams-limit}
use Rattle.trace_tool.proofs.any_machine.prepared.stream_events.Goals as goal

pub returns-then-is_stopped-clause-streams : goal.returns-then-is_stopped-clause-streams
returns-then-is_stopped-clause-streams g c = streams-stopped (sym c.is_stopped.ensures.value ∙ c.if-is_stopped.true)

pub loop-event-init : goal.loop-event-init
loop-event-init g c = record {
  streams = streams-none (sym c.is_stopped.ensures.value ∙ c.if-is_stopped.false) (c.is_stopped.ensures.idle c.if-is_stopped.false);
  checked = λ checked. checked;
  kept = c.requires;
}

pub loop-event-preserved : goal.loop-event-preserved
loop-event-preserved g c =
    let more = take_more c.args.events.now c.loop-event.event-index c.event-item.result c.loop-event-test.true in
    let handed = c.hand_over-last.ensures in
    record {
      streams = rw (more, ← c.event-item.is) (streams-more c.loop-event.invariant.streams c.in-Ok.ensures.taken handed.given handed.cleared (rw c.as_slice.ensures at c.entries.ensures));
      checked = λ checked. handed.checked (c.in-Ok.ensures.checked (c.loop-event.invariant.checked checked)).0;
      kept = rw handed.cleared c.in-Ok.ensures.kept;
    }

pub returns-in-Err-clause-streams : goal.returns-in-Err-clause-streams
returns-in-Err-clause-streams g c =
    let more = drop_more c.args.events.now c.loop-event.event-index c.event-item.result c.loop-event-test.true in
    let rest = drop (c.loop-event.event-index + 1) c.args.events.now in
    let split : take c.loop-event.event-index c.args.events.now ++ c.event-item.result ∷ rest ≡ c.args.events.now =
    ap (λ (l : List Event). take c.loop-event.event-index c.args.events.now ++ l) (sym (rw (← c.event-item.is) at more)) ∙ take-append-drop c.loop-event.event-index c.args.events.now in
    rw (← split) (streams-stop rest c.loop-event.invariant.streams c.in-Err.ensures.stopped)

pub returns-in-Err-clause-limits : goal.returns-in-Err-clause-limits
returns-in-Err-clause-limits g c checked = streams-limit c.loop-event.invariant.streams (c.in-Err.ensures.checked (c.loop-event.invariant.checked checked)).1
