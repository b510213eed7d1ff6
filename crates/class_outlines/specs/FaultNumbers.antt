-- The numbers of the refusals of programs that don't load (docs/commands.md).
use Rattle.std.specs.Prelude.{ℕ, Option, Some, None}
use Rattle.class_outlines.specs.declared.fault.MetaFault.{MetaFault}
use Rattle.class_outlines.specs.declared.fault.MetaFault.TheVariants as fault

-- the number of a refusal; running out of memory has none
abbrev pub number_of : MetaFault → Option ℕ
number_of fault.DuplicateClass = Some 10
number_of fault.NoBase = Some 11
number_of fault.DuplicateMember = Some 12
number_of fault.NoMember = Some 13
number_of fault.BadNotify = Some 14
number_of fault.NoType = Some 15
number_of fault.Memory = None
