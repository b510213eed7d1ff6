-- What the code finds in a part of a body, whose first statement has the number `start` in the whole.
use Rattle.std.specs.Prelude.{ℕ, List}
use Rattle.std.specs.declared.ops.ControlFlow.{ControlFlow}
use Rattle.std.specs.declared.ops.ControlFlow.TheVariants.{Continue, Break}
use Rattle.meta_model.specs.declared.object.ValueType.{ValueType}
use Rattle.meta_model.specs.declared.object.Statement.{Statement}
use Rattle.meta_model.specs.Loaded.{Loaded}
use Rattle.effect_scan.specs.declared.node.Node.{Node}
use Rattle.edge_reasons.specs.Order.{in_order}
use Rattle.edge_reasons.specs.Searches.{FirstFrom, NoneFrom}
use Rattle.edge_reasons.specs.Reasons.{BodyLeads, DoesTo}

-- the number of the first statement that does something to the node, or where none does the number behind them all
abbrev pub Seeks : Loaded → ℕ → List ValueType → List Statement → Node → ℕ → ControlFlow ℕ ℕ → Type 0
Seeks p c types body y start (Break number) =
    BodyLeads p c types body y × FirstFrom (λ t. DoesTo p c types t y) (in_order body) start number
Seeks p c types body y start (Continue next) =
    (¬ BodyLeads p c types body y) × NoneFrom (λ t. DoesTo p c types t y) (in_order body) start next
