-- The places of nodes, by what classes have.
use Rattle.std.specs.Prelude.{◌≡◌, ◌⊎◌, ℕ, ◌+◌, ◌-◌, ◌≤◌, ◌<◌, List, length, take, Some, slice_get}
use Rattle.meta_model.specs.declared.qobject.TheConstants.{DESTROYED, OBJECT_NAME_CHANGED}
use Rattle.effect_scan.specs.declared.node.Node.{Node}
use Rattle.effect_scan.specs.declared.node.Member.{Member}
use Rattle.effect_scan.specs.declared.node.Member.TheVariants.{Method, Property, Destruction}
use Rattle.effect_scan.specs.declared.numbering.Shape.{Shape}
use Rattle.effect_scan.specs.Nodes.{nodes_from}

-- the place of a member among the nodes of its class
abbrev pub IsPlaceIn : Shape → Member → ℕ → Type 0
IsPlaceIn shape (Method m) k =
    ((m ≡ DESTROYED) × (k ≡ 0)) ⊎ ((OBJECT_NAME_CHANGED ≤ m) × (m < shape.methods) × (k + 1 ≡ m))
IsPlaceIn shape (Property q) k = (q < shape.properties) × (k ≡ 1 + (shape.methods - OBJECT_NAME_CHANGED) + q)
IsPlaceIn shape Destruction k = k ≡ 1 + (shape.methods - OBJECT_NAME_CHANGED) + shape.properties

-- the nodes are those of the classes, and those of each class begin where it says
pub record Numbers (nodes : List Node) (shapes : List Shape) (starts : List ℕ) : Type 0 where
  pub nodes_are : nodes ≡ nodes_from 0 shapes
  pub count : length starts ≡ length shapes
  pub begins : (c start : ℕ) → slice_get starts c ≡ Some start → start ≡ length (nodes_from 0 (take c shapes))
