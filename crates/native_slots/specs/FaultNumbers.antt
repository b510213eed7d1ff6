-- The numbers of the refusals of closures (docs/commands.md).
use Rattle.std.specs.Prelude.{ℕ}
use Rattle.native_slots.specs.declared.fault.NativeFault.{NativeFault}
use Rattle.native_slots.specs.declared.fault.NativeFault.TheVariants as fault

abbrev pub number_of : NativeFault → ℕ
number_of fault.NoNative = 17
number_of fault.EffectsDiffer = 18
