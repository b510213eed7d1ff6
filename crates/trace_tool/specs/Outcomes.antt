-- What command lines write of what they come to, and their exit status (docs/commands.md, "Exit status").
use Rattle.std.specs.Prelude.{ℕ, List, [], ◌++◌, codes, decimal, Option, Result, Ok, Err}
use Rattle.trace_entries.specs.Faults.{number_of as fault_number}
use Rattle.trace_entries.specs.declared.entry.Entry.{Entry}
use Rattle.trace_entries.specs.declared.fault.Fault.{Fault}
use Rattle.program_commands.specs.Outcomes.{outcome_text as program_text, outcome_status as program_status, WritesAs, IsShortAs}
use Rattle.command_lines.specs.Lines.{newline, trace_text}
use Rattle.command_lines.specs.declared.input.InputFault.TheVariants as input
use Rattle.trace_tool.specs.declared.any_machine.outcome.Outcome.{Outcome}
use Rattle.trace_tool.specs.declared.any_machine.outcome.Outcome.TheVariants.{Usage, NoInput, Program, Ran as OfRun, Memory}
use Rattle.trace_tool.specs.declared.any_machine.outcome.Ran.{Ran}
use Rattle.object_machine.specs.Seen.{Seen}

-- the lines of a run's trace, and of the fault that stopped it; and its exit status
abbrev pub run_answer : List Entry → Result (Unit {0}) Fault → List ℕ × ℕ
run_answer trace (Ok _) = (trace_text trace, 0)
run_answer trace (Err fault) = (trace_text trace ++ (codes "fault " ++ decimal (fault_number fault) ++ newline), 4)

-- the bytes of an outcome, and its exit status; where a read failed nothing is written
abbrev pub answer_of : {N : Type 0} → Outcome (Seen N) → List ℕ × ℕ
answer_of (Usage fault) = (codes "usage\n", 1)
answer_of (NoInput (input.Unread reason)) = ([], 1)
answer_of (NoInput input.Memory) = (codes "memory\n", 1)
answer_of (Program outcome) = (program_text outcome, program_status outcome)
answer_of (OfRun ran) = run_answer ran.machine.world.trace ran.ended
answer_of Memory = (codes "memory\n", 1)

-- a writer took the bytes of what a command line comes to
abbrev pub Writes : {N E : Type 0} → (Outcome (Seen N) → Type 0) → Option (List ℕ) → Option (List ℕ) → Result ℕ E → Type 0
Writes ComesTo before after result =
    WritesAs (λ outcome. (answer_of outcome).0) (λ outcome. (answer_of outcome).1) ComesTo before after result

-- ---- parts of these, as the code does them

-- what contracts see of a run that has ended, and of an outcome: its machine as that is seen
abbrev pub seen_run : {M S : Type 0} → (M → S) → Ran M → Ran S
seen_run seen ran = record { machine = seen ran.machine; ended = ran.ended }

abbrev pub seen_outcome : {M S : Type 0} → (M → S) → Outcome M → Outcome S
seen_outcome seen (Usage fault) = Usage fault
seen_outcome seen (NoInput fault) = NoInput fault
seen_outcome seen (Program outcome) = Program outcome
seen_outcome seen (OfRun ran) = OfRun (seen_run seen ran)
seen_outcome seen Memory = Memory

-- the text of a run, and of an outcome
abbrev pub run_text : List Entry → Result (Unit {0}) Fault → List ℕ
run_text trace ended = (run_answer trace ended).0

abbrev pub outcome_text : {N : Type 0} → Outcome (Seen N) → List ℕ
outcome_text outcome = (answer_of outcome).0

-- the exit status of a run, and of an outcome, of whatever machine
abbrev pub run_status : Result (Unit {0}) Fault → ℕ
run_status (Ok _) = 0
run_status (Err fault) = 4

abbrev pub outcome_status : {M : Type 0} → Outcome M → ℕ
outcome_status (Usage fault) = 1
outcome_status (NoInput fault) = 1
outcome_status (Program outcome) = program_status outcome
outcome_status (OfRun ran) = run_status ran.ended
outcome_status Memory = 1

-- there was no memory outside a run: all that is written is `memory`
abbrev pub IsShort : {N : Type 0} → Outcome (Seen N) → Type 0
IsShort outcome = IsShortAs outcome_text outcome_status outcome
