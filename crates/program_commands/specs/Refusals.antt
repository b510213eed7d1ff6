-- Refused texts, the checker's nos, and their lines (docs/commands.md, "Refusals").
use Rattle.std.specs.Prelude.{ℕ, List, ◌++◌, codes, decimal, Option, Some, None}
use Rattle.class_lang.specs.Reads.{number_of as text_number}
use Rattle.class_outlines.specs.FaultNumbers.{number_of as meta_number}
use Rattle.certificate_lang.specs.Reads.{number_of as certificate_number}
use Rattle.rank_check.specs.Checks.{number_of as no_number}
use Rattle.native_slots.specs.FaultNumbers.{number_of as native_number}
use Rattle.native_slots.specs.Misfits.{fault_of}
use Rattle.script_lang.specs.declared.fault.ScriptFault.{ScriptFault}
use Rattle.script_lang.specs.declared.fault.ScriptFault.TheVariants.{TooLarge, BadLine, Memory}
use Rattle.program_commands.specs.declared.refusal.Refusal.{Refusal}
use Rattle.program_commands.specs.declared.refusal.Refusal.TheVariants.{Text, Loading, Certificate, Script, Check, Unsettled, Natives}
use Rattle.command_lines.specs.Lines.{newline}

-- the number of a refused script; running out of memory has none
abbrev pub script_number : ScriptFault → Option ℕ
script_number TooLarge = Some 7
script_number (BadLine n) = Some 16
script_number Memory = None

-- the number of a refusal, or of the checker's no
abbrev pub refusal_number : Refusal → Option ℕ
refusal_number (Text fault) = text_number fault
refusal_number (Loading fault) = meta_number fault
refusal_number (Certificate fault) = certificate_number fault
refusal_number (Script fault) = script_number fault
refusal_number (Check denial) = no_number denial.no
refusal_number (Unsettled reason) = no_number reason
refusal_number (Natives misfit) = Some (native_number (fault_of misfit))

-- ---- lines

abbrev pub memory_line : List ℕ
memory_line = codes "memory\n"

abbrev pub usage_line : List ℕ
usage_line = codes "usage\n"

-- what a check writes of a valid certificate
abbrev pub yes_line : List ℕ
yes_line = codes "yes\n"

abbrev pub fault_line : ℕ → List ℕ
fault_line k = codes "fault " ++ decimal k ++ newline

-- a line of words and a number; without one it is that of running out of memory
abbrev pub line_of : List ℕ → Option ℕ → List ℕ
line_of words (Some k) = words ++ decimal k ++ newline
line_of words None = memory_line

abbrev pub script_line : ScriptFault → List ℕ
script_line TooLarge = line_of (codes "refused ") (script_number TooLarge)
script_line (BadLine n) = codes "refused 16 line " ++ decimal n ++ newline
script_line Memory = line_of (codes "refused ") (script_number Memory)

abbrev pub refusal_line : Refusal → List ℕ
refusal_line (Text fault) = line_of (codes "refused ") (text_number fault)
refusal_line (Loading fault) = line_of (codes "refused ") (meta_number fault)
refusal_line (Certificate fault) = line_of (codes "refused ") (certificate_number fault)
refusal_line (Script fault) = script_line fault
refusal_line (Check denial) = line_of (codes "no ") (no_number denial.no)
refusal_line (Unsettled reason) = line_of (codes "no ") (no_number reason)
refusal_line (Natives misfit) = line_of (codes "refused ") (Some (native_number (fault_of misfit)))

-- ---- the exit status

-- this status where there is a number, and 1 where memory ran out
abbrev pub status_of : ℕ → Option ℕ → ℕ
status_of status (Some k) = status
status_of status None = 1

abbrev pub refusal_status : Refusal → ℕ
refusal_status (Text fault) = status_of 2 (text_number fault)
refusal_status (Loading fault) = status_of 2 (meta_number fault)
refusal_status (Certificate fault) = status_of 2 (certificate_number fault)
refusal_status (Script fault) = status_of 2 (script_number fault)
refusal_status (Check denial) = status_of 3 (no_number denial.no)
refusal_status (Unsettled reason) = status_of 3 (no_number reason)
refusal_status (Natives misfit) = status_of 2 (Some (native_number (fault_of misfit)))
