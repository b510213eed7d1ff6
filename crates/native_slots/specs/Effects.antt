-- What a native may be given, and what it may answer, by its effects (docs/natives.md, "Effects").
use Rattle.std.specs.Prelude.{Bool, ◌&&◌, List, map, slice_get}
use Rattle.basic_types.specs.declared.value.Value.{Value}
use Rattle.meta_model.specs.declared.object.ValueType.{ValueType}
use Rattle.native_slots.specs.declared.action.Action.{Action}
use Rattle.native_slots.specs.declared.effects.Effects.{Effects}
use Rattle.native_slots.specs.declared.effects.PlainProperty.{PlainProperty}
use Rattle.native_slots.specs.declared.effects.PlainSignal.{PlainSignal}
use Rattle.native_slots.specs.declared.plain_type.PlainType.{PlainType}
use Rattle.native_slots.specs.Plain.{kind_of, are_of}
use Rattle.native_slots.specs.Within.{is_allowed, are_allowed}

abbrev pub types_of : List PlainType → List ValueType
types_of types = map kind_of types

abbrev pub kinds_of_properties : List PlainProperty → List ValueType
kinds_of_properties properties = map (λ (property : PlainProperty). kind_of property.kind) properties

-- the arguments and the values of what is read are as many as declared, and of the declared types
abbrev pub accepts : Effects → List Value → List Value → Bool
accepts effects arguments reads = are_of arguments (types_of effects.parameters) && are_of reads (kinds_of_properties effects.reads)

-- what lies within the effects that a closure keeps to
abbrev pub is_within : Effects → Action → Bool
is_within effects =
    is_allowed (λ (signal : PlainSignal). types_of signal.types) (λ (property : PlainProperty). kind_of property.kind) (slice_get effects.emits) (slice_get effects.sets)

abbrev pub are_within : Effects → List Action → Bool
are_within effects = are_allowed (is_within effects)
