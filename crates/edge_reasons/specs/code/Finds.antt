-- What a search through statements for the one of a number comes to.
use Rattle.std.specs.Prelude.{◌≡◌, ℕ, ◌+◌, List, Some, length, slice_get}
use Rattle.std.specs.Borrow.{Bor}
use Rattle.std.specs.declared.ops.ControlFlow.{ControlFlow}
use Rattle.std.specs.declared.ops.ControlFlow.TheVariants.{Continue, Break}
use Rattle.meta_model.specs.declared.object.Statement.{Statement}

-- the statement before which so many stand, or how many are left behind them all
abbrev pub Finds : List Statement → ℕ → ControlFlow (Bor Statement) ℕ → Type 0
Finds ordered left (Break found) = slice_get ordered left ≡ Some found.now
Finds ordered left (Continue rest) = left ≡ length ordered + rest
