-- A binding site as it is loaded, by the numbers of classes and properties (docs/machine.md, "Loading").
use Rattle.std.specs.Prelude.{◌≡◌, ℕ, List, [], ◌∷◌, slice_get, Some}
use Rattle.std.specs.List.{AllZip}
use Rattle.basic_types.specs.declared.value.Value.{Value}
use Rattle.syntax_trees.specs.declared.syntax.Unary.{Unary}
use Rattle.syntax_trees.specs.declared.syntax.Binary.{Binary}
use Rattle.syntax_trees.specs.declared.syntax.Expr.{Expr}
use Rattle.syntax_trees.specs.declared.syntax.Expr.TheOpen as expr
use Rattle.syntax_trees.specs.declared.syntax.Expr.TheViews.{out-Expr}
use Rattle.syntax_trees.specs.declared.syntax.Path.{Path}
use Rattle.syntax_trees.specs.declared.syntax.Root.TheVariants as root
use Rattle.syntax_trees.specs.declared.program.Formal.{Formal}
use Rattle.syntax_trees.specs.declared.program.Site.{Site}
use Rattle.meta_model.specs.declared.site.SourceProperty.{SourceProperty}
use Rattle.meta_model.specs.declared.site.MetaSite.{MetaSite}
use Rattle.meta_model.specs.Literals.{literal}
use Rattle.meta_model.specs.Loaded.{Loaded}
use Rattle.meta_model.specs.Members.{IsClassNamed, IsPropertyNamed}
use Rattle.name_indexes.specs.Places.{StandsFirst}

pub record IsLoadedSource (p : Loaded) (site : Site) (formals : List ℕ) (path : Path) (s : SourceProperty) : Type 0 where
  pub formal_name : List ℕ
  pub rooted : path.root ≡ root.Name formal_name
  pub formal : StandsFirst (λ (f : Formal). f.name ≡ formal_name) site.formals s.source
  pub class : ℕ
  pub is_class : slice_get formals s.source ≡ Some class
  pub name : List ℕ
  pub alone : path.properties ≡ name ∷ []
  pub is_property : IsPropertyNamed p class name s.property

pub data IsLoadedFormula (p : Loaded) (site : Site) (formals : List ℕ) : Expr Path → Expr SourceProperty → Type 0 where
  literal_loads : {e : Expr Path} {f : Expr SourceProperty} {v : Value} → out-Expr Path e ≡ expr.Literal v
      → out-Expr SourceProperty f ≡ expr.Literal (literal v) → IsLoadedFormula p site formals e f
  path_loads : {e : Expr Path} {f : Expr SourceProperty} {path : Path} {s : SourceProperty}
      → out-Expr Path e ≡ expr.Path path → out-Expr SourceProperty f ≡ expr.Path s
      → IsLoadedSource p site formals path s → IsLoadedFormula p site formals e f
  unary_loads : {e a : Expr Path} {f b : Expr SourceProperty} {op : Unary} → out-Expr Path e ≡ expr.Unary op a
      → out-Expr SourceProperty f ≡ expr.Unary op b → IsLoadedFormula p site formals a b
      → IsLoadedFormula p site formals e f
  binary_loads : {e a c : Expr Path} {f b d : Expr SourceProperty} {op : Binary} → out-Expr Path e ≡ expr.Binary op a c
      → out-Expr SourceProperty f ≡ expr.Binary op b d → IsLoadedFormula p site formals a b
      → IsLoadedFormula p site formals c d → IsLoadedFormula p site formals e f

pub record IsLoadedSite (p : Loaded) (declared : Site) (site : MetaSite) : Type 0 where
  pub named : site.name ≡ declared.name
  pub class : IsClassNamed p declared.class site.class
  pub property : IsPropertyNamed p site.class declared.property site.property
  pub formals : AllZip (λ (f : Formal) (c : ℕ). IsClassNamed p f.class c) declared.formals site.formals
  pub formula : IsLoadedFormula p declared site.formals declared.expression site.formula
