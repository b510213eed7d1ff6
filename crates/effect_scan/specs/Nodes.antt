-- The nodes of a program: the members of its classes, inherited ones too, and the destructions of their objects
-- (docs/certificate.md, "Nodes").
use Rattle.std.specs.Prelude.{◌≡◌, ◌==◌, if◌then◌else◌, ℕ, suc, ◌-◌, List, [], ◌∷◌, ◌++◌, length, map, Some, slice_get}
use Rattle.std.specs.List.{range_with_len}
use Rattle.meta_model.specs.declared.object.MetaObject.{MetaObject}
use Rattle.meta_model.specs.declared.qobject.TheConstants.{DESTROYED, DESTROYED_ALONE, OBJECT_NAME_CHANGED}
use Rattle.meta_model.specs.Loaded.{Loaded}
use Rattle.effect_scan.specs.declared.node.Node.{Node}
use Rattle.effect_scan.specs.declared.node.Member.{Member}
use Rattle.effect_scan.specs.declared.node.Member.TheVariants.{Method, Property, Destruction}
use Rattle.effect_scan.specs.declared.numbering.Shape.{Shape}

-- a member of class c
abbrev pub node : ℕ → Member → Node
node c member = record { class = c; member = member }

-- the signal of this number: `destroyed()` is `destroyed(QObject*)`, with no argument passed
abbrev pub named : ℕ → ℕ
named m = if m == DESTROYED_ALONE then DESTROYED else m

-- how many methods and properties a class has, inherited ones too
abbrev pub shape_of : MetaObject → Shape
shape_of class = record { methods = length class.methods; properties = length class.properties }

-- the methods of class c that are nodes, by number: all but `destroyed()`
abbrev pub method_nodes : ℕ → ℕ → List Node
method_nodes c count =
    node c (Method DESTROYED) ∷ map (λ m. node c (Method m)) (range_with_len OBJECT_NAME_CHANGED (count - OBJECT_NAME_CHANGED))

abbrev pub property_nodes : ℕ → ℕ → List Node
property_nodes c count = map (λ q. node c (Property q)) (range_with_len 0 count)

-- the nodes of class c: its methods, its properties, its destruction
abbrev pub class_nodes : ℕ → Shape → List Node
class_nodes c shape =
    method_nodes c shape.methods ++ property_nodes c shape.properties ++ node c Destruction ∷ []

-- the nodes of class c and of those after it
abbrev pub nodes_from : ℕ → List Shape → List Node
nodes_from c [] = []
nodes_from c (shape ∷ shapes) = class_nodes c shape ++ nodes_from (suc c) shapes

-- the nodes of `QObject`, and then of each class as declared
abbrev pub nodes_of : Loaded → List Node
nodes_of p = nodes_from 0 (map shape_of p.classes)

-- the node's number is its place among all nodes
abbrev pub IsAt : List Node → Node → ℕ → Type 0
IsAt nodes x n = slice_get nodes n ≡ Some x
