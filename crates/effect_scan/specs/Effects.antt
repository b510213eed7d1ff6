-- What the statements of a body and the actions of a native do at once, and to which objects (docs/certificate.md, "Edges").
use Rattle.std.specs.{Prelude.{◌≡◌, ◌↔◌, ◌⊎◌, ℕ, List, ◌∷◌, Option, None, Some}, Option.{option_and_then, option_map}, List.{Contains}}
use Rattle.syntax_trees.specs.declared.syntax.Expr.{Expr}
use Rattle.meta_model.specs.{declared.object.ValueType.{ValueType}, declared.object.MetaRoot.{MetaRoot}, declared.object.Step.{Step}, declared.object.MetaPath.{MetaPath}, declared.object.Statement.{Statement}, declared.object.Statement.TheViews.{out-Statement}, declared.object.Work.{Work}, declared.effects.MetaEffects.{MetaEffects}, declared.object.Work.TheVariants.{Signal, Slot, Native}}
use Rattle.meta_model.specs.declared.object.ValueType.TheVariants as type
use Rattle.meta_model.specs.declared.object.Statement.TheOpen as layer
use Rattle.effect_scan.specs.{declared.node.Member.{Member}, declared.node.Member.TheVariants.{Method, Property, Destruction}, declared.effect.Reach.{Reach}, declared.effect.Reach.TheVariants.{Own, Below}, declared.effect.Effect.{Effect}, Paths.{of_root, of_last, of_path}}

-- ---- the objects that a path may lead to
-- objects of the type's class or below it
abbrev pub reach_of_type : ValueType → Option Reach
reach_of_type type.Int = None
reach_of_type type.Bool = None
reach_of_type type.Text = None
reach_of_type (type.Reference class constant) = Some (Below class)

-- `this` is the object itself, anything else one of its declared type
abbrev pub reach_of_root : List ValueType → MetaRoot → Option Reach
reach_of_root types root = of_root (Some Own) (option_and_then reach_of_type) types root

abbrev pub reach_after : List ValueType → MetaRoot → Option Step → Option Reach
reach_after types root last = of_last (Some Own) (option_and_then reach_of_type) types root last

abbrev pub reach_of : List ValueType → MetaPath → Option Reach
reach_of types path = of_path (Some Own) (option_and_then reach_of_type) types path

-- ---- statements
abbrev pub effect_on : List ValueType → Member → MetaPath → Option Effect
effect_on types member path = option_map (λ reach. record { reach = reach; member = member }) (reach_of types path)

-- what a statement does at once; what is in the blocks of an `if` and in a group is looked at on its own
abbrev pub effect_of : List ValueType → layer.Statement-F Statement → Option Effect
effect_of types (layer.Set path q e) = effect_on types (Property q) path
effect_of types (layer.Emit m es) = Some (record { reach = Own; member = Method m })
effect_of types (layer.Call path m es) = effect_on types (Method m) path
effect_of types (layer.If e chosen other) = None
effect_of types (layer.Connect ends how) = None
effect_of types (layer.Disconnect ends) = None
effect_of types (layer.Delete path) = effect_on types Destruction path
effect_of types (layer.Later path) = None
effect_of types (layer.Group sets) = None

-- a statement is in a body, or in a block or a group of it
pub data Occurs : Statement → List Statement → Type 0 where
  here : {s : Statement} {rest : List Statement} → Occurs s (s ∷ rest)
  after : {s t : Statement} {rest : List Statement} → Occurs s rest → Occurs s (t ∷ rest)
  chosen : {s t : Statement} {e : Expr MetaPath} {block other rest : List Statement}
      → out-Statement t ≡ layer.If e block other → Occurs s block → Occurs s (t ∷ rest)
  otherwise : {s t : Statement} {e : Expr MetaPath} {block other rest : List Statement}
      → out-Statement t ≡ layer.If e block other → Occurs s other → Occurs s (t ∷ rest)
  grouped : {s t : Statement} {sets rest : List Statement}
      → out-Statement t ≡ layer.Group sets → Occurs s sets → Occurs s (t ∷ rest)

-- a statement of the body does this, where the parameters are of these types
pub record BodyHas (types : List ValueType) (body : List Statement) (effect : Effect) : Type 0 where
  pub statement : Statement
  pub occurs : Occurs statement body
  pub is : effect_of types (out-Statement statement) ≡ Some effect

-- one statement does this, or one that is in it
abbrev pub StatementHas : List ValueType → layer.Statement-F Statement → Effect → Type 0
StatementHas types (layer.If e block other) effect = BodyHas types block effect ⊎ BodyHas types other effect
StatementHas types (layer.Set path q e) effect = effect_of types (layer.Set path q e) ≡ Some effect
StatementHas types (layer.Emit m es) effect = effect_of types (layer.Emit m es) ≡ Some effect
StatementHas types (layer.Call path m es) effect = effect_of types (layer.Call path m es) ≡ Some effect
StatementHas types (layer.Connect ends how) effect = effect_of types (layer.Connect ends how) ≡ Some effect
StatementHas types (layer.Disconnect ends) effect = effect_of types (layer.Disconnect ends) ≡ Some effect
StatementHas types (layer.Delete path) effect = effect_of types (layer.Delete path) ≡ Some effect
StatementHas types (layer.Later path) effect = effect_of types (layer.Later path) ≡ Some effect
StatementHas types (layer.Group sets) effect = BodyHas types sets effect

-- ---- natives
-- something is done to the object's own member of one of these numbers
pub record IsDoneTo (member : ℕ → Member) (numbers : List ℕ) (effect : Effect) : Type 0 where
  pub number : ℕ
  pub among : Contains numbers number
  pub is : effect ≡ record { reach = Own; member = member number }

-- a native may emit its signals and set its properties
abbrev pub NativeHas : MetaEffects → Effect → Type 0
NativeHas effects effect =
    IsDoneTo (λ m. Method m) effects.emits effect ⊎ IsDoneTo (λ q. Property q) effects.sets effect

-- ---- methods
-- what a method does at once when it is called: a signal nothing by itself, a slot what a statement of its body does, a
-- native what it may do
abbrev pub WorkHas : List ValueType → Work → Effect → Type 0
WorkHas types Signal effect = ⊥
WorkHas types (Slot body) effect = BodyHas types body effect
WorkHas types (Native effects) effect = NativeHas effects effect

-- ---- lists
-- just those with P were added
abbrev pub Gathers : {X : Type 0} → (X → Type 0) → List X → List X → Type 0
Gathers {X} P before more = (x : X) → Contains more x ↔ (Contains before x ⊎ P x)
