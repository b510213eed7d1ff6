-- What the declared types tell of a path's end (docs/certificate.md, "Edges", "Typing").
use Rattle.std.specs.Prelude.{ℕ, ◌-◌, List, length, Option, None, Some, slice_get}
use Rattle.meta_model.specs.declared.object.ValueType.{ValueType}
use Rattle.meta_model.specs.declared.object.MetaRoot.{MetaRoot}
use Rattle.meta_model.specs.declared.object.MetaRoot.TheVariants.{This, Parameter}
use Rattle.meta_model.specs.declared.object.Step.{Step}
use Rattle.meta_model.specs.declared.object.MetaPath.{MetaPath}

-- of what it begins with: `own` for `this`, for a parameter what its declared type gives
abbrev pub of_root : {A : Type 0} → A → (Option ValueType → A) → List ValueType → MetaRoot → A
of_root own of types This = own
of_root own of types (Parameter k) = of (slice_get types k)

abbrev pub of_last : {A : Type 0} → A → (Option ValueType → A) → List ValueType → MetaRoot → Option Step → A
of_last own of types root None = of_root own of types root
of_last own of types root (Some step) = of (Some step.kind)

-- of a path: what the declared type of its last property gives, and without properties what it begins with gives
abbrev pub of_path : {A : Type 0} → A → (Option ValueType → A) → List ValueType → MetaPath → A
of_path own of types path = of_last own of types path.root (slice_get path.steps (length path.steps - 1))
