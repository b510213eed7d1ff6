-- Binding sites as declared: what their names stand for, and the conditions that refuse them (docs/language.md, "Names" and
-- "Bindings").
use Rattle.std.specs.Prelude.{◌≡◌, ℕ, ◌⊎◌, true, List, [], ◌∷◌, Any, Option, MatchOption}
use Rattle.syntax_trees.specs.declared.syntax.Path.{Path}
use Rattle.syntax_trees.specs.declared.syntax.Root.TheVariants as root
use Rattle.syntax_trees.specs.declared.program.Formal.{Formal}
use Rattle.syntax_trees.specs.declared.program.Property.{Property}
use Rattle.syntax_trees.specs.declared.program.Site.{Site}
use Rattle.meta_model.specs.declared.site.SourceProperty.{SourceProperty}
use Rattle.class_outlines.specs.declared.site_properties.FoundProperty.{FoundProperty}
use Rattle.class_outlines.specs.declared.site_properties.FoundSource.{FoundSource}
use Rattle.class_outlines.specs.declared.outline.Outline.{Outline}
use Rattle.name_indexes.specs.Places.{StandsFirst}
use Rattle.name_indexes.specs.Twice.{StandsTwice}
use Rattle.class_outlines.specs.Outlines.{IsOutlineNamed}
use Rattle.meta_model.specs.Sites.{paths_in}

-- ---- names that appear twice
-- two formal sources of a binding have one name
pub record RepeatsFormal (site : Site) : Type 0 where
  pub twice : StandsTwice (λ (a b : Formal). a.name ≡ b.name) site.formals

-- two bindings have one name, or two formal sources of a binding have
abbrev pub RepeatsSite : List Site → Type 0
RepeatsSite sites = StandsTwice (λ (a b : Site). a.name ≡ b.name) sites ⊎ Any RepeatsFormal sites

-- ---- properties, by the names of their classes
-- the class of this name, which has number c, has this property, of number q and of this name
pub record IsPropertyIn (outlines : List Outline) (class name : List ℕ) (c q : ℕ) (property : Property) : Type 0 where
  pub of_class : IsOutlineNamed outlines class c
  pub place : StandsFirst (λ (p : Property). p.name ≡ name) of_class.at.item.properties q
  pub is : place.at.item ≡ property

-- the path is this property of a formal source of the binding
pub record IsSourceProperty (outlines : List Outline) (site : Site) (path : Path) (s : SourceProperty) (property : Property)
    : Type 0 where
  pub formal_name : List ℕ
  pub rooted : path.root ≡ root.Name formal_name
  pub formal : StandsFirst (λ (f : Formal). f.name ≡ formal_name) site.formals s.source
  pub name : List ℕ
  pub alone : path.properties ≡ name ∷ []
  pub number : ℕ
  pub is_property : IsPropertyIn outlines formal.at.item.class name number s.property property

-- ---- what searches answer
-- the property of this name of the class of this name, with the numbers of both
abbrev pub FindsProperty : List Outline → List ℕ → List ℕ → Option FoundProperty → Type 0
FindsProperty outlines class name answer =
    MatchOption answer ((c q : ℕ) (property : Property) → ¬ IsPropertyIn outlines class name c q property)
    (λ found. IsPropertyIn outlines class name found.class found.place found.property.now)

-- the property of a formal source that the path leads to
abbrev pub FindsSource : List Outline → Site → Path → Option FoundSource → Type 0
FindsSource outlines site path answer =
    MatchOption answer ((s : SourceProperty) (property : Property) → ¬ IsSourceProperty outlines site path s property)
    (λ found. IsSourceProperty outlines site path found.source found.property.now)

-- ---- properties that can't be bound or read
-- the property of this name, in the class of this name, is a reference
pub record IsReferenceIn (outlines : List Outline) (class name : List ℕ) : Type 0 where
  pub number : ℕ
  pub place : ℕ
  pub property : Property
  pub is : IsPropertyIn outlines class name number place property
  pub pointer : property.kind.pointer ≡ true

-- the target is a reference
abbrev pub BindsReference : List Outline → Site → Type 0
BindsReference outlines site = IsReferenceIn outlines site.class site.property

-- the path is a reference
pub record ReadsReference (outlines : List Outline) (site : Site) (path : Path) : Type 0 where
  pub source : SourceProperty
  pub property : Property
  pub read : IsSourceProperty outlines site path source property
  pub pointer : property.kind.pointer ≡ true

-- the site binds or reads a reference
pub data UsesReference (outlines : List Outline) (site : Site) : Type 0 where
  by_target : BindsReference outlines site → UsesReference outlines site
  by_source : Any (ReadsReference outlines site) (paths_in site.expression) → UsesReference outlines site
