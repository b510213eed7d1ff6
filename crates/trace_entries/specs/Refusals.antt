-- The numbers of refused events (docs/commands.md, "Refusals").
use Rattle.std.specs.Prelude.{ℕ}
use Rattle.trace_entries.specs.declared.refusal.Refusal.{Refusal}
use Rattle.trace_entries.specs.declared.refusal.Refusal.TheVariants.{NameUsed, NoObject, Dead, NoClass, NotOwned, Cycle, OtherLoop, TooManyObjects, NotWired, Incompatible, Exists, NoConnection, NoLoop, LoopExists, BadSource, BadArgs, NoMember, HasParent, Bound}

abbrev pub refusal_number : Refusal → ℕ
refusal_number NameUsed = 30
refusal_number NoObject = 31
refusal_number Dead = 32
refusal_number NoClass = 33
refusal_number NotOwned = 34
refusal_number Cycle = 35
refusal_number OtherLoop = 36
refusal_number TooManyObjects = 37
refusal_number NotWired = 38
refusal_number Incompatible = 39
refusal_number Exists = 40
refusal_number NoConnection = 41
refusal_number NoLoop = 42
refusal_number LoopExists = 43
refusal_number BadSource = 44
refusal_number BadArgs = 45
refusal_number NoMember = 46
refusal_number HasParent = 48
refusal_number Bound = 49
