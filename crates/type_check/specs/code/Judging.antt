-- What the code finds in a part of a body, whose first statement has the number `start` in the whole.
use Rattle.std.specs.Prelude.{◌≡◌, ℕ, List, Option, Some}
use Rattle.std.specs.declared.ops.ControlFlow.{ControlFlow}
use Rattle.std.specs.declared.ops.ControlFlow.TheVariants.{Continue, Break}
use Rattle.meta_model.specs.declared.object.ValueType.{ValueType}
use Rattle.meta_model.specs.declared.object.Statement.{Statement}
use Rattle.meta_model.specs.Loaded.{Loaded}
use Rattle.edge_reasons.specs.Order.{in_order}
use Rattle.edge_reasons.specs.Searches.{FirstFrom, NoneFrom}
use Rattle.type_check.specs.declared.flaws.TypeFlaw.{TypeFlaw}
use Rattle.type_check.specs.Bodies.{IsUntyped, IsTypedBody}

-- the flaw is in the first statement that isn't typed
pub record IsFirstFlaw (p : Loaded) (me : ℕ) (types : List ValueType) (body : List Statement) (start : ℕ) (told : Option ℕ) : Type 0 where
  pub number : ℕ
  pub is : told ≡ Some number
  pub first : FirstFrom (IsUntyped p me types) (in_order body) start number

-- the flaw of the first statement that isn't typed, or where all are typed the number behind them all
abbrev pub Judges : Loaded → ℕ → List ValueType → List Statement → ℕ → ControlFlow TypeFlaw ℕ → Type 0
Judges p me types body start (Break flaw) = (¬ IsTypedBody p me types body) × IsFirstFlaw p me types body start flaw.statement
Judges p me types body start (Continue next) = IsTypedBody p me types body × NoneFrom (IsUntyped p me types) (in_order body) start next
