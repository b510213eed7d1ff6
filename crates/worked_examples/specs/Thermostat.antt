-- What a thermostat's native takes, reads, emits and sets, as its class declares it (docs/natives.md, "A native of your own").
use Rattle.std.specs.Prelude.{[], ◌∷◌, codes}
use Rattle.native_slots.specs.declared.effects.Effects.{Effects}
use Rattle.native_slots.specs.declared.plain_type.PlainType.TheVariants as plain

abbrev pub thermostat_effects : Effects
thermostat_effects = record {
  parameters = plain.Int ∷ [];
  reads = record { name = codes "wanted"; kind = plain.Int } ∷ record { name = codes "heating"; kind = plain.Bool } ∷ [];
  emits = record { name = codes "switched"; types = plain.Bool ∷ [] } ∷ [];
  sets = record { name = codes "room"; kind = plain.Int } ∷ record { name = codes "heating"; kind = plain.Bool } ∷ [];
}
