-- What typed parts of a program have in every state (docs/certificate.md, "Typing").
use Rattle.std.specs.Prelude.{◌≡◌, ℕ, List, Option, Some}
use Rattle.std.specs.List.{AllZip}
use Rattle.basic_types.specs.declared.value.Value.{Value}
use Rattle.syntax_trees.specs.declared.syntax.Expr.{Expr}
use Rattle.expressions.specs.Evaluation.{value, values}
use Rattle.meta_model.specs.declared.object.ValueType.{ValueType}
use Rattle.meta_model.specs.declared.object.MetaPath.{MetaPath}
use Rattle.meta_model.specs.declared.object.MetaProperty.{MetaProperty}
use Rattle.meta_model.specs.declared.site.SourceProperty.{SourceProperty}
use Rattle.meta_model.specs.declared.site.MetaSite.{MetaSite}
use Rattle.meta_model.specs.Loaded.{Loaded}
use Rattle.meta_model.specs.Members.{IsProperty}
use Rattle.meta_model.specs.Sound.{LeadsTo, IsSoundExpr, AreSoundExprs}
use Rattle.meta_model.specs.Values.{Has, HaveTypes}
use Rattle.type_check.specs.Bodies.{IsGivenIn}
use Rattle.type_check.specs.Typed.{kind_of_source, IsTypedSite}

-- there is a value, of this type, where `classes` gives the class of each living object
abbrev pub HasValueOf : Loaded → (ℕ → Option ℕ) → ValueType → Option Value → Type 0
HasValueOf p classes T found = (v : Value) × (found ≡ Some v) × Has p classes v T

-- every path whose names are there leads to a value of its declared type
abbrev pub PathsAreTyped : Loaded → (ℕ → Option ℕ) → ℕ → List ValueType → (MetaPath → Option Value) → Type 0
PathsAreTyped p classes me types read = (path : MetaPath) (T : ValueType) → LeadsTo p me types path T → HasValueOf p classes T (read path)

-- In every state where that is so, an expression of a body whose names are there has a value, of the type of what may be
-- given it.
abbrev pub GivenHaveValues : Loaded → Type 0
GivenHaveValues p =
    (classes : ℕ → Option ℕ) (me : ℕ) (types : List ValueType) (read : MetaPath → Option Value) → PathsAreTyped p classes me types read
    → (T : ValueType) (e : Expr MetaPath) → IsSoundExpr p me types e → IsGivenIn p me types T e → HasValueOf p classes T (value read e)

-- In such a state the arguments of a call have values, each of its parameter's type.
abbrev pub ArgumentsHaveValues : Loaded → Type 0
ArgumentsHaveValues p =
    (classes : ℕ → Option ℕ) (me : ℕ) (types : List ValueType) (read : MetaPath → Option Value) → PathsAreTyped p classes me types read
    → (Ts : List ValueType) (es : List (Expr MetaPath)) → AreSoundExprs p me types es → AllZip (IsGivenIn p me types) Ts es
    → (vs : List Value) × (values read es ≡ Some vs) × HaveTypes p classes vs Ts

-- every property of a formal source that is there has a value of its declared type
abbrev pub SourcesAreTyped : Loaded → (ℕ → Option ℕ) → List ℕ → (SourceProperty → Option Value) → Type 0
SourcesAreTyped p classes formals read =
    (s : SourceProperty) (T : ValueType) → kind_of_source p formals s ≡ Some T → HasValueOf p classes T (read s)

-- In every state where that is so, the expression of a typed binding has a value of the type of its target.
abbrev pub BindingsHaveValues : Loaded → Type 0
BindingsHaveValues p =
    (classes : ℕ → Option ℕ) (site : MetaSite) (read : SourceProperty → Option Value) → SourcesAreTyped p classes site.formals read
    → IsTypedSite p site → (property : MetaProperty) → IsProperty p site.class site.property property
    → HasValueOf p classes property.kind (value read site.formula)
