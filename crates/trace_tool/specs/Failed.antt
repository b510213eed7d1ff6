-- What comes only of a read that failed (docs/commands.md, "Exit status").
use Rattle.command_lines.specs.Failing.{OnUnread}
use Rattle.trace_tool.specs.declared.any_machine.outcome.Outcome.{Outcome}
use Rattle.trace_tool.specs.declared.any_machine.outcome.Outcome.TheVariants.{NoInput}

-- where there is no input because a read failed, this is so
abbrev pub IfUnread : {M : Type 0} → Outcome M → Type 0 → Type 0
IfUnread (NoInput fault) P = OnUnread fault P
IfUnread _ P = Unit {0}
