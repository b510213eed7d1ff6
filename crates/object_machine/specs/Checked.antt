-- What stands of a machine of a checked program (docs/machine.md, "Faults"; docs/certificate.md, "The check").
use Rattle.std.specs.Prelude.{◌≡◌, ℕ, ◌⊎◌, true, false, List, []}
use Rattle.certificate_lang.specs.declared.certificate.Certificate.{Certificate}
use Rattle.rank_check.specs.Valid.{IsValid}
use Rattle.script_lang.specs.declared.event.Event.{Event}
use Rattle.trace_entries.specs.declared.entry.Entry.{Entry}
use Rattle.trace_entries.specs.declared.fault.Answer.{Answer}
use Rattle.trace_entries.specs.declared.fault.Fault.{Fault}
use Rattle.trace_entries.specs.declared.fault.Fault.TheVariants.{Steps, Memory}
use Rattle.machine_state.specs.Worlds.{at, untouched}
use Rattle.machine_rules.specs.Natives.{NativeAnswers}
use Rattle.object_machine.specs.Laws.{in_front}
use Rattle.object_machine.specs.Runs.{Run}
use Rattle.object_machine.specs.Seen.{Seen}

-- the machine has come to its world by a run from the beginning, which also wrote down the lines that it has let go
pub record HasCome {N : Type 0} (gives : N → NativeAnswers) (m : Seen N) : Type 0 where
  pub steps : ℕ
  pub taken : List Event
  pub answers : List Answer
  pub gone : List Entry
  pub run : Run m.program (gives m.natives) (at (untouched steps) []) steps taken answers (in_front gone (at m.world [])) m.world.left

-- its program has a valid certificate, whose bound is its depth; and unless it has stopped, it has come to where it is
pub record IsChecked {N : Type 0} (gives : N → NativeAnswers) (m : Seen N) : Type 0 where
  pub certificate : Certificate
  pub valid : IsValid m.program certificate
  pub bound : m.depth ≡ certificate.bound
  pub came : m.stopped ≡ false → HasCome gives m

-- no rule is left, or memory was refused: this says nothing of the program
pub data IsLimit : Fault → Type 0 where
  no_rule : IsLimit Steps
  no_memory : IsLimit Memory

-- it stops for a limit, or had stopped before
abbrev pub StopsAtLimit : {N : Type 0} → Seen N → Fault → Type 0
StopsAtLimit before f = IsLimit f ⊎ (before.stopped ≡ true)
