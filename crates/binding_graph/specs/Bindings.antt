-- Bindings, what their expressions read, and settled values (Qt 6, "Qt Bindable Properties"; docs/machine.md,
-- "Bindings"). Nothing here says in which order values are computed.
use Rattle.std.specs.Prelude.{◌≡◌, ℕ, eqb, ◌||◌, ◌&&◌, not, Bool, List, [], ◌∷◌, ◌++◌, filter, filter_map, cond, Option, Some, None, slice_get}
use Rattle.std.specs.List.{list_any}
use Rattle.std.specs.Option.{option_and_then, option_map}
use Rattle.basic_types.specs.declared.value.Value.{Value}
use Rattle.syntax_trees.specs.declared.syntax.Expr.{Expr}
use Rattle.syntax_trees.specs.declared.syntax.Expr.TheOpen as layer
use Rattle.syntax_trees.specs.declared.syntax.Expr.TheFolds.{fold-Expr}
use Rattle.expressions.specs.Evaluation.{value}
use Rattle.meta_model.specs.Among.{is_among}
use Rattle.meta_model.specs.declared.site.SourceProperty.{SourceProperty}
use Rattle.binding_graph.specs.declared.place.Place.{Place}
use Rattle.binding_graph.specs.declared.binding.Binding.{Binding}
use Rattle.binding_graph.specs.Places.{property_of, same_place, is_in, In}

-- ---- what a binding reads
-- the properties of sources that an expression names, from those of its parts
abbrev pub named_step : layer.Expr-F SourceProperty (List SourceProperty) → List SourceProperty
named_step (layer.Literal v) = []
named_step (layer.Path s) = s ∷ []
named_step (layer.Unary op ss) = ss
named_step (layer.Binary op ss ts) = ss ++ ts

abbrev pub named_in : Expr SourceProperty → List SourceProperty
named_in = fold-Expr SourceProperty (List SourceProperty) named_step

-- the property that a name stands for, where these are the sources
abbrev pub source_place : List ℕ → SourceProperty → Option Place
source_place sources s = option_map (λ o. property_of o s.property) (slice_get sources s.source)

-- the properties that the binding reads: all that its expression names
abbrev pub read_by : Binding → List Place
read_by b = filter_map (source_place b.sources) (named_in b.formula)

-- the value of the binding's expression, where e gives the values of properties
abbrev pub value_of : Binding → (Place → Option Value) → Option Value
value_of b e = value (λ s. option_and_then e (source_place b.sources s)) b.formula

-- ---- the installed bindings, in the order in which they were installed
-- the binding of a property, if it is bound
abbrev pub binding_at : List Binding → Place → Option Binding
binding_at [] p = None
binding_at (b ∷ bs) p = cond (same_place b.target p) (Some b) (binding_at bs p)

-- no two of them are of one property
abbrev pub AreApart : List Binding → Type 0
AreApart [] = Unit {0}
AreApart (b ∷ bs) = (binding_at bs b.target ≡ None) × AreApart bs

-- all but the binding of this property: what is left after a write
abbrev pub without : Place → List Binding → List Binding
without p bs = filter (λ b. not (same_place b.target p)) bs

-- what is left of the bindings after a write of several properties
abbrev pub without_all : List Place → List Binding → List Binding
without_all [] bs = bs
without_all (p ∷ ps) bs = without_all ps (without p bs)

-- a binding replaces the old one of its target, and stands last
abbrev pub replaced : List Binding → Binding → List Binding
replaced bs b = without b.target bs ++ b ∷ []

-- the objects that the binding joins: that of its target, and its sources
abbrev pub joined_by : Binding → List ℕ
joined_by b = b.target.object ∷ b.sources

-- what is left once an object is dead: the bindings that don't join it
abbrev pub dropped : ℕ → List Binding → List Binding
dropped o bs = filter (λ b. not (is_among o (joined_by b))) bs

-- one of them is among these objects, and another isn't
abbrev pub leads_out : List ℕ → Binding → Bool
leads_out os b = list_any (λ o. is_among o os) (joined_by b) && list_any (λ o. not (is_among o os)) (joined_by b)

-- some binding joins one of these objects with another that isn't among them
abbrev pub lead_out : List ℕ → List Binding → Bool
lead_out os bs = list_any (leads_out os) bs

-- ---- settled values, where F gives the binding of each bound property
-- each bound property has its expression's value
abbrev pub Settled : (Place → Option Binding) → (Place → Option Value) → Type 0
Settled F e = (p : Place) (b : Binding) → F p ≡ Some b → e p ≡ value_of b e

-- a chain of bindings leads from one property to another
pub data Chain (F : Place → Option Binding) : Place → Place → Type 0 where
  direct : {p q : Place} (b : Binding) → F q ≡ Some b → In p (read_by b) → Chain F p q
  further : {p m q : Place} (b : Binding) → Chain F p m → F q ≡ Some b → In m (read_by b) → Chain F p q

-- a chain leads from one of these properties to another
abbrev pub ChainFrom : (Place → Option Binding) → List Place → Place → Type 0
ChainFrom F ps q = (p : Place) × In p ps × Chain F p q

-- a chain leads from a property back to itself
abbrev pub Loop : (Place → Option Binding) → Type 0
Loop F = (p : Place) × Chain F p p

-- ---- parts of these, as the code asks them
abbrev pub Reads : Binding → Place → Type 0
Reads b p = In p (read_by b)

-- the binding reads one of these
abbrev pub reads_any : Binding → List Place → Bool
reads_any b ps = list_any (is_in ps) (read_by b)

-- the object is the binding's target or one of its sources
abbrev pub touches : ℕ → Binding → Bool
touches o b = eqb b.target.object o || is_among o b.sources
