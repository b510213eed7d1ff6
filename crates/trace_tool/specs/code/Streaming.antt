-- Events that are applied one after the other, each of which is written out when it is done.
use Rattle.std.specs.Prelude.{ℕ, List, Option, Result}
use Rattle.script_lang.specs.declared.event.Event.{Event}
use Rattle.trace_entries.specs.declared.entry.Entry.{Entry}
use Rattle.trace_entries.specs.declared.fault.Fault.{Fault}
use Rattle.machine_rules.specs.Natives.{NativeAnswers}
use Rattle.object_machine.specs.Seen.{Seen, RunsAll, with_front}
use Rattle.command_lines.specs.Lines.{trace_text}
use Rattle.command_lines.specs.Sent.{Puts}
use Rattle.command_lines.specs.declared.output.Output.{Output}

-- the machine ran on these events, and the lines that it handed over were put into the output
pub record Streams {N W : Type 0} (gives : N → NativeAnswers) (contents : W → Option (List ℕ)) (m : Seen N) (events : List Event)
    (ended : Result (Unit {0}) Fault) (n : Seen N) (before after : Output W (List ℕ)) : Type 0 where
  pub gone : List Entry
  pub ran : RunsAll gives m events ended (with_front gone n)
  pub puts : Puts contents before after (trace_text gone)
