-- Which ways hand one value on unchanged (docs/settling.md, "Handing on").
use Rattle.std.specs.Prelude.{◌≡◌, List, [], ◌∷◌}
use Rattle.syntax_trees.specs.declared.syntax.Expr.{Expr}
use Rattle.syntax_trees.specs.declared.syntax.Expr.TheOpen as expr
use Rattle.syntax_trees.specs.declared.syntax.Expr.TheViews.{out-Expr}
use Rattle.meta_model.specs.declared.object.MetaPath.{MetaPath}
use Rattle.meta_model.specs.declared.object.MetaRoot.TheVariants.{Parameter}
use Rattle.meta_model.specs.declared.object.Statement.{Statement}
use Rattle.meta_model.specs.declared.object.Statement.TheOpen as layer
use Rattle.meta_model.specs.declared.object.Statement.TheViews.{out-Statement}
use Rattle.meta_model.specs.declared.object.ValueType.{ValueType}
use Rattle.meta_model.specs.declared.object.Work.{Work}
use Rattle.meta_model.specs.declared.object.Work.TheVariants.{Signal, Slot, Native}
use Rattle.meta_model.specs.Loaded.{Loaded}
use Rattle.effect_scan.specs.declared.effect.Effect.{Effect}
use Rattle.effect_scan.specs.declared.node.Node.{Node}
use Rattle.effect_scan.specs.Effects.{Occurs, here, after, chosen, otherwise, grouped, WorkHas}
use Rattle.effect_scan.specs.Edges.{MayLead, by_work, by_wire, by_notify, by_site, by_destruction}

-- ---- statements

-- the expression is just the first parameter, and so has the value that the slot was called with
pub record IsCarried (e : Expr MetaPath) : Type 0 where
  pub path : MetaPath
  pub is : out-Expr MetaPath e ≡ expr.Path path
  pub root : path.root ≡ Parameter 0
  pub alone : path.steps ≡ []

-- that is all that is passed
abbrev pub PassesCarried : List (Expr MetaPath) → Type 0
PassesCarried [] = ⊥
PassesCarried (e ∷ []) = IsCarried e
PassesCarried (e ∷ f ∷ es) = ⊥

-- what the statement does by itself, it does with the value that the slot was called with
abbrev pub HandsValue : layer.Statement-F Statement → Type 0
HandsValue (layer.Set path q e) = IsCarried e
HandsValue (layer.Emit m es) = PassesCarried es
HandsValue (layer.Call path m es) = PassesCarried es
HandsValue (layer.If e block other) = ⊥
HandsValue (layer.Connect ends how) = ⊥
HandsValue (layer.Disconnect ends) = ⊥
HandsValue (layer.Delete path) = ⊥
HandsValue (layer.Later path) = ⊥
HandsValue (layer.Group sets) = ⊥

-- the statement isn't in a group
abbrev pub StandsAlone : {s : Statement} {body : List Statement} → Occurs s body → Type 0
StandsAlone here = Unit {0}
StandsAlone (after rest) = StandsAlone rest
StandsAlone (chosen is inner) = StandsAlone inner
StandsAlone (otherwise is inner) = StandsAlone inner
StandsAlone (grouped is inner) = ⊥

-- ---- ways

-- what a method does is done by a statement that hands its value on; a native may do it with any value
abbrev pub WorkHands : (types : List ValueType) (work : Work) (effect : Effect) → WorkHas types work effect → Type 0
WorkHands types Signal effect has = ⊥
WorkHands types (Slot body) effect has = HandsValue (out-Statement has.statement) × StandsAlone has.occurs
WorkHands types (Native effects) effect has = ⊥

-- The way hands on the value that it begins with, where both ends have one: a wire the signal's argument, a property its
-- value. The value of a binding is another one, and a deletion has none.
abbrev pub HandsOn : {p : Loaded} {x y : Node} → MayLead p x y → Type 0
HandsOn (by_work w) = WorkHands w.method.types w.method.work w.effect w.has
HandsOn (by_wire w) = Unit {0}
HandsOn (by_notify w) = Unit {0}
HandsOn (by_site w) = ⊥
HandsOn (by_destruction w) = ⊥

-- every way from the one node to the other does
abbrev pub HandOn : Loaded → Node → Node → Type 0
HandOn p x y = (way : MayLead p x y) → HandsOn way
