-- What is written where nothing was done.
use Rattle.std.proofs.Common.{◌≡◌, ◌≤◌, inl, inr, ℕ, List, Option, Some, None, Result, Ok, Err, codes, refl, arith}
use Rattle.trace_entries.specs.declared.fault.Fault.{Fault}
use Rattle.rank_make.specs.declared.why.Why.{Why}
use Rattle.rank_make.specs.declared.why.Why.TheVariants as why
use Rattle.script_lang.specs.declared.fault.ScriptFault.{ScriptFault}
use Rattle.script_lang.specs.declared.fault.ScriptFault.TheVariants as of_script
use Rattle.meta_model.specs.Loaded.{Loaded}
use Rattle.program_commands.specs.declared.outcome.Outcome.{Outcome as ProgramOutcome}
use Rattle.program_commands.specs.declared.outcome.Outcome.TheVariants as told
use Rattle.program_commands.specs.declared.refusal.Refusal.{Refusal}
use Rattle.program_commands.specs.declared.refusal.Refusal.TheVariants as refusal
use Rattle.program_commands.specs.Outcomes.{outcome_text as program_text, outcome_status as program_status, settling_text, settling_status}
use Rattle.program_commands.specs.declared.settling_commands.outcome.SettlingOutcome.{SettlingOutcome}
use Rattle.program_commands.specs.declared.settling_commands.outcome.SettlingOutcome.TheVariants as settling
use Rattle.program_commands.specs.Reasons.{reason_line, reason_status}
use Rattle.program_commands.specs.Refusals.{memory_line, refusal_line, refusal_status, line_of, status_of}
use Rattle.command_lines.specs.declared.input.InputFault.TheVariants as input
use Rattle.trace_tool.specs.declared.any_machine.outcome.Outcome.TheVariants as outcome
use Rattle.trace_tool.specs.Outcomes.{run_status}
use Rattle.trace_tool.specs.Laws.{UndoneIsALine}

numberless : (status : ℕ) (words : List ℕ) (number : Option ℕ) → 2 ≤ status → status_of status number ≡ 1 → line_of words number ≡ memory_line
numberless status words (Some k) more is = absurd (omega (arith, more, is))
numberless status words None more is = refl

script_memory : (fault : ScriptFault) → refusal_status (refusal.Script fault) ≡ 1 → refusal_line (refusal.Script fault) ≡ memory_line
script_memory of_script.TooLarge is = absurd (omega (arith, is))
script_memory (of_script.BadLine n) is = absurd (omega (arith, is))
script_memory of_script.Memory is = refl

refusal_memory : (r : Refusal) → refusal_status r ≡ 1 → refusal_line r ≡ memory_line
refusal_memory (refusal.Text fault) is = numberless 2 (codes "refused ") _ (omega arith) is
refusal_memory (refusal.Loading fault) is = numberless 2 (codes "refused ") _ (omega arith) is
refusal_memory (refusal.Certificate fault) is = numberless 2 (codes "refused ") _ (omega arith) is
refusal_memory (refusal.Script fault) is = script_memory fault is
refusal_memory (refusal.Check w) is = numberless 3 (codes "no ") _ (omega arith) is
refusal_memory (refusal.Unsettled reason) is = numberless 3 (codes "no ") _ (omega arith) is
refusal_memory (refusal.Natives fault) is = absurd (omega (arith, is))

reason_memory : (p : Loaded) (w : Why) → reason_status w ≡ 1 → reason_line p w ≡ memory_line
reason_memory p (why.Wire place) is = absurd (omega (arith, is))
reason_memory p (why.BodyType found) is = absurd (omega (arith, is))
reason_memory p (why.Cycle nodes) is = absurd (omega (arith, is))
reason_memory p (why.DestroyPath nodes) is = absurd (omega (arith, is))
reason_memory p (why.TooHigh nodes) is = absurd (omega (arith, is))
reason_memory p why.Memory is = refl

settling_memory : (o : SettlingOutcome) → settling_status o ≡ 1 → settling_text o ≡ memory_line
settling_memory (settling.Certificate p text) is = absurd (omega (arith, is))
settling_memory (settling.Uncertified p w) is = reason_memory p w is
settling_memory (settling.Valid checked) is = absurd (omega (arith, is))

told_memory : (o : ProgramOutcome) → program_status o ≡ 1 → program_text o ≡ memory_line
told_memory (told.Refused r) is = refusal_memory r is
told_memory (told.Classes p) is = absurd (omega (arith, is))
told_memory (told.Certificate certified) is = absurd (omega (arith, is))
told_memory (told.Uncertified p w) is = reason_memory p w is
told_memory (told.Valid checked) is = absurd (omega (arith, is))
told_memory (told.Settling o) is = settling_memory o is

run_goes : (ended : Result (Unit {0}) Fault) → ¬ (run_status ended ≡ 1)
run_goes (Ok _) is = omega (arith, is)
run_goes (Err fault) is = omega (arith, is)

pub undone_is_a_line : (N : Type 0) → UndoneIsALine N
undone_is_a_line N (outcome.Usage fault) is = inl refl
undone_is_a_line N (outcome.NoInput (input.Unread reason)) is = inr (inr refl)
undone_is_a_line N (outcome.NoInput input.Memory) is = inr (inl refl)
undone_is_a_line N (outcome.Program o) is = inr (inl (told_memory o is))
undone_is_a_line N (outcome.Ran ran) is = absurd (run_goes ran.ended is)
undone_is_a_line N outcome.Memory is = inr (inl refl)
