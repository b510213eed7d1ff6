-- The statements of a body in the order of the text, each `if` and each group before what is in it (docs/certificate.md,
-- "Edges").
use Rattle.std.specs.Prelude.{◌≡◌, ◌↔◌, ℕ, ◌+◌, ◌-◌, ◌^◌, min, nat_lt, List, [], ◌∷◌, ◌++◌, length, take, flat_map, Some, slice_get}
use Rattle.meta_model.specs.declared.object.Statement.{Statement}
use Rattle.meta_model.specs.declared.object.Statement.TheOpen as layer
use Rattle.meta_model.specs.declared.object.Statement.TheViews.{roll-Statement}
use Rattle.meta_model.specs.declared.object.Statement.TheFolds.{fold-Statement, map-Statement}
use Rattle.effect_scan.specs.Effects.{Occurs}
use Rattle.edge_reasons.specs.declared.numbered.Numbered.{Numbered}

-- a statement, and with it what is in it
abbrev pub WithParts : Type 0
WithParts = Statement × List Statement

-- what is in a statement, given each of its parts with what is in that
abbrev pub inside : layer.Statement-F (List Statement) → List Statement
inside (layer.Set path q e) = []
inside (layer.Emit m es) = []
inside (layer.Call path m es) = []
inside (layer.If e block other) = flat_map (λ parts. parts) block ++ flat_map (λ parts. parts) other
inside (layer.Connect ends how) = []
inside (layer.Disconnect ends) = []
inside (layer.Delete path) = []
inside (layer.Later path) = []
inside (layer.Group sets) = flat_map (λ parts. parts) sets

abbrev pub order_step : layer.Statement-F WithParts → WithParts
order_step parts =
    let whole = roll-Statement (map-Statement WithParts Statement (λ part. part.0) parts) in
    (whole, whole ∷ inside (map-Statement WithParts (List Statement) (λ part. part.1) parts))

-- the statement, and behind it those that are in it
abbrev pub with_parts : Statement → List Statement
with_parts statement = (fold-Statement WithParts order_step statement).1

-- the statements of a body, with those that are in them
abbrev pub in_order : List Statement → List Statement
in_order body = flat_map with_parts body

-- the statement has a number in the body
abbrev pub HasNumber : Statement → List Statement → Type 0
HasNumber statement body = (number : ℕ) × (slice_get (in_order body) number ≡ Some statement)

-- just what occurs in a body is among its statements in order
abbrev pub OccurringHaveNumbers : List Statement → Type 0
OccurringHaveNumbers body = (statement : Statement) → Occurs statement body ↔ HasNumber statement body

-- this is the statement of that number in the body: the statement of the body that it is or is in stands at its place
pub record IsNumbered (body : List Statement) (number : ℕ) (found : Numbered) : Type 0 where
  pub is : slice_get (in_order body) number ≡ Some found.statement.now
  pub outer : Statement
  pub stands : slice_get body found.place ≡ Some outer
  pub before : ℕ
  pub counted : number ≡ length (in_order (take found.place body)) + before
  pub within : slice_get (with_parts outer) before ≡ Some found.statement.now
  pub inner : found.is_inner ≡ nat_lt 0 before

-- a number as it is written down: one that `usize` can't hold is its largest
abbrev pub capped : ℕ → ℕ
capped number = min number (2 ^ 64 - 1)
