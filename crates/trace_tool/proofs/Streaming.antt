-- Events that are applied one after the other, each of which is written out when it is done.
use Rattle.std.proofs.Common.{◌≡◌, ℕ, ◌⊎◌, inr, List, [], ◌∷◌, ◌++◌, Option, None, Ok, Err, true, false, refl, sym, ap, ◌∙◌, subst, append-nil}
use Rattle.std.proofs.lemmas.List.Concat.{flat_map-append}
use Rattle.script_lang.specs.declared.event.Event.{Event}
use Rattle.trace_entries.specs.declared.entry.Entry.{Entry}
use Rattle.trace_entries.specs.declared.fault.Answer.{Answer}
use Rattle.trace_entries.specs.declared.fault.Fault.{Fault}
use Rattle.trace_entries.specs.declared.fault.Fault.TheVariants.{Stopped}
use Rattle.machine_rules.specs.Natives.{NativeAnswers}
use Rattle.object_machine.specs.Checked.{StopsAtLimit}
use Rattle.object_machine.specs.Seen.{Seen, Completes, Halts, Stays, cleared, with_front}
use Rattle.object_machine.proofs.Applying.{completes-none, completes-then, run-stops}
use Rattle.object_machine.proofs.Applying.{limit-behind}
use Rattle.object_machine.proofs.SeenPrefixes.{completes-front, stop-front}
use Rattle.command_lines.specs.Lines.{entry_line, trace_text}
use Rattle.command_lines.specs.Sent.{Puts}
use Rattle.command_lines.specs.declared.output.Output.{Output}
use Rattle.command_lines.proofs.Sending.{sent, as_text, none_sent}
use Rattle.trace_tool.specs.code.Streaming.{Streams}

-- these events were taken, and what they wrote down was handed over, and put into the output
pub record StreamsSoFar {N W : Type 0} (gives : N → NativeAnswers) (contents : W → Option (List ℕ)) (m : Seen N) (taken : List Event)
    (n : Seen N) (before after : Output W (List ℕ)) : Type 0 where
  pub gone : List Entry
  pub answers : List Answer
  pub completes : Completes gives m taken answers (with_front gone n)
  pub puts : Puts contents before after (trace_text gone)

module _ {N W : Type 0} {gives : N → NativeAnswers} {contents : W → Option (List ℕ)} {m n : Seen N} {before after : Output W (List ℕ)} where
  -- an event is taken, and written out
  pub streams-more : {o next : Seen N} {taken : List Event} {e : Event} {x : Answer} {last : List Entry} {later : Output W (List ℕ)} → StreamsSoFar gives contents m taken n before after → Completes gives n (e ∷ []) (x ∷ []) o →
      last ≡ o.world.trace → next ≡ cleared o → Puts contents after later (trace_text last) → StreamsSoFar gives contents m (taken ++ e ∷ []) next before later
  streams-more {o} {next} {taken} {e} {x} s goes given clear puts =
      let wrote : List Entry = o.world.trace in
      let gone : List Entry = s.gone ++ wrote in
      let Ends : Seen N → Type 0 = λ v. Completes gives m (taken ++ e ∷ []) (s.answers ++ x ∷ []) v in
      let traced : List Entry → Seen N = λ trace. record o { world = record o.world { trace = trace } } in
      let same : with_front gone next ≡ with_front s.gone o = ap (λ (v : Seen N). with_front gone v) clear ∙ ap traced (append-nil gone) in
      record {
        gone = gone;
        answers = s.answers ++ x ∷ [];
        completes = subst Ends (sym same) (completes-then s.completes (completes-front s.gone goes));
        puts = as_text (sent s.puts (as_text puts (ap trace_text (sym given)))) (flat_map-append entry_line s.gone wrote);
      }

  -- .. the next one stops the machine
  pub streams-stop : {o : Seen N} {taken : List Event} {e : Event} {f : Fault} (more : List Event) → StreamsSoFar gives contents m taken n before after → Halts gives n (e ∷ []) f o ⊎ Stays n f o →
      Streams gives contents m (taken ++ e ∷ more) (Err f) o before after
  streams-stop {f = f} more s stops =
      record { gone = s.gone; ran = run-stops more (Err f) s.completes (stop-front s.gone stops) refl; puts = s.puts }

  -- .. for a limit
  pub streams-limit : {taken : List Event} {f : Fault} → StreamsSoFar gives contents m taken n before after → StopsAtLimit n f → StopsAtLimit m f
  streams-limit {f = f} s stops = limit-behind (Err f) s.completes stops refl

module _ {N W : Type 0} {gives : N → NativeAnswers} {contents : W → Option (List ℕ)} {m : Seen N} {output : Output W (List ℕ)} where
  pub streams-none : m.stopped ≡ false → m.world.turn ≡ None → StreamsSoFar gives contents m [] m output output
  streams-none went idle = record { gone = []; answers = []; completes = completes-none went idle; puts = none_sent contents output }

  -- a machine that had stopped does nothing
  pub streams-stopped : {events : List Event} → m.stopped ≡ true → Streams gives contents m events (Err Stopped) m output output
  streams-stopped stopped = record { gone = []; ran = inr (record { stopped = stopped; answers = refl; same = refl }); puts = none_sent contents output }

-- all were taken
pub streams-all : {N W : Type 0} {gives : N → NativeAnswers} {contents : W → Option (List ℕ)} {m n : Seen N} {events : List Event} {before after : Output W (List ℕ)} → StreamsSoFar gives contents m events n before after →
    Streams gives contents m events (Ok tt) n before after
streams-all s = record { gone = s.gone; ran = (s.answers, s.completes); puts = s.puts }
