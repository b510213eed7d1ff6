-- How bytes, and a signature's types, are held.
use Rattle.std.specs.Prelude.{ℕ, List, []}
use Rattle.std.specs.Rc.{rc_slice_items}
use Rattle.basic_types.specs.declared.qtype.QType.{QType}
use Rattle.basic_types.specs.declared.shared_bytes.HeldBytes.{HeldBytes}
use Rattle.basic_types.specs.declared.shared_bytes.HeldBytes.TheVariants.{Few, Many}
use Rattle.basic_types.specs.declared.parameter_types.HeldTypes.{HeldTypes}
use Rattle.basic_types.specs.declared.parameter_types.HeldTypes.TheVariants.{Nothing, One, Several}

-- the bytes
abbrev pub held_bytes : HeldBytes → List ℕ
held_bytes (Few short) = short
held_bytes (Many list) = rc_slice_items list

-- the types
abbrev pub held_types : HeldTypes → List QType
held_types Nothing = []
held_types (One types) = types
held_types (Several types) = types
