-- What the native may do (docs/commands.md, "Natives").
use Rattle.std.specs.Int.{saturate_signed, w32}
use Rattle.std.specs.Prelude.{[], ◌∷◌, codes, pos, ℤ, ◌*ℤ◌}
use Rattle.native_slots.specs.declared.effects.Effects.{Effects}
use Rattle.native_slots.specs.declared.plain_type.PlainType.TheVariants.{Int}

-- `native twice(int) emits done(int) sets out`, where `out` is an `int`
abbrev pub doubling : Effects
doubling = record {
  parameters = Int ∷ [];
  reads = [];
  emits = record { name = codes "done"; types = Int ∷ [] } ∷ [];
  sets = record { name = codes "out"; kind = Int } ∷ [];
}

-- twice the number, kept within 32 bits
abbrev pub twice_of : ℤ → ℤ
twice_of n = saturate_signed w32 (n *ℤ pos 2)
