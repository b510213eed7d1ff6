-- A binding site is resolved in one way at most.
use Rattle.std.proofs.Common.{◌≡◌, ℕ, List, [], ◌∷◌, refl, sym, ap, ◌∙◌, subst}
use Rattle.std.specs.List.{AllZip}
use Rattle.syntax_trees.specs.declared.syntax.Expr.{Expr}
use Rattle.syntax_trees.specs.declared.syntax.Expr.TheOpen as expr
use Rattle.syntax_trees.specs.declared.syntax.Expr.TheViews.{out-Expr, roll-Expr, roll-out-Expr}
use Rattle.syntax_trees.specs.declared.syntax.Path.{Path}
use Rattle.syntax_trees.specs.declared.program.Formal.{Formal}
use Rattle.syntax_trees.specs.declared.program.Site.{Site}
use Rattle.meta_model.specs.declared.site.SourceProperty.{SourceProperty}
use Rattle.meta_model.specs.declared.site.MetaSite.{MetaSite}
use Rattle.class_outlines.specs.declared.outline.Outline.{Outline}
use Rattle.meta_model.specs.Literals.{literal}
use Rattle.class_outlines.specs.Outlines.{IsOutlineNamed}
use Rattle.class_outlines.specs.DeclaredSites.{IsSourceProperty}
use Rattle.name_resolution.specs.code.Sites.{IsFormula, literal_is, path_is, unary_is, binary_is, IsSite}
use Rattle.class_outlines.proofs.Searches.{same_first}
use Rattle.class_outlines.proofs.SiteProperties.{one_property_in, one_source}

-- two lists that relate to one list in the same way are the same
pub same_zip : {A B : Type 0} (R : A → B → Type 0) (xs : List A) (ys zs : List B) → ((x : A) (y z : B) → R x y → R x z → y ≡ z) → AllZip R xs ys → AllZip R xs zs → ys ≡ zs
same_zip R [] [] [] f h k = refl
same_zip R [] [] (z ∷ zs) f h k = absurd k
same_zip R [] (y ∷ ys) zs f h k = absurd h
same_zip R (x ∷ xs) [] zs f h k = absurd h
same_zip R (x ∷ xs) (y ∷ ys) [] f h k = absurd k
same_zip R (x ∷ xs) (y ∷ ys) (z ∷ zs) f h k =
    ap (λ v. v ∷ ys) (f x y z h.0 k.0) ∙ ap (λ vs. z ∷ vs) (same_zip R xs ys zs f h.1 k.1)

-- an expression is what it is made of
same_expr : (a b : Expr SourceProperty) → out-Expr SourceProperty a ≡ out-Expr SourceProperty b → a ≡ b
same_expr a b e = sym (roll-out-Expr SourceProperty a) ∙ ap (λ x. roll-Expr SourceProperty x) e ∙ roll-out-Expr SourceProperty b

abbrev site_of : List ℕ → ℕ → ℕ → List ℕ → Expr SourceProperty → MetaSite
site_of n c q fs e = record { name = n; class = c; property = q; formals = fs; formula = e }

module _ (outlines : List Outline) where
  module _ (site : Site) where
    same_formula : (e : Expr Path) (f g : Expr SourceProperty) → IsFormula outlines site e f → IsFormula outlines site e g → f ≡ g
    same_formula e f g (literal_is {v = v} a b) (literal_is {v = w} c d) =
        let same : v ≡ w = cc in same_expr f g (b ∙ ap (λ u. expr.Literal (literal u)) same ∙ sym d)
    same_formula e f g (literal_is a b) (path_is c d k0) = absurd (cc)
    same_formula e f g (literal_is a b) (unary_is c d k0) = absurd (cc)
    same_formula e f g (literal_is a b) (binary_is c d k0 k1) = absurd (cc)
    same_formula e f g (path_is a b h0) (literal_is c d) = absurd (cc)
    same_formula e f g (path_is a b h0) (unary_is c d k0) = absurd (cc)
    same_formula e f g (path_is a b h0) (binary_is c d k0 k1) = absurd (cc)
    same_formula e f g (unary_is a b h0) (literal_is c d) = absurd (cc)
    same_formula e f g (unary_is a b h0) (path_is c d k0) = absurd (cc)
    same_formula e f g (unary_is a b h0) (binary_is c d k0 k1) = absurd (cc)
    same_formula e f g (binary_is a b h0 h1) (literal_is c d) = absurd (cc)
    same_formula e f g (binary_is a b h0 h1) (path_is c d k0) = absurd (cc)
    same_formula e f g (binary_is a b h0 h1) (unary_is c d k0) = absurd (cc)
    same_formula e f g (path_is {path = p} {s = s} {property = x} a b h) (path_is {path = q} {s = t} {property = y} c d k) =
        let same : p ≡ q = cc in
        let source = (one_source outlines site p s t x y h (subst (λ z. IsSourceProperty outlines site z t y) (sym same) k)).0 in
        same_expr f g (b ∙ ap (λ u. expr.Path u) source ∙ sym d)
    same_formula e f g (unary_is {a = x} {b = y} a b h) (unary_is {a = z} {b = w} c d k) =
        let same : x ≡ z = cc in
        let part : y ≡ w = same_formula x y w h (subst (λ v. IsFormula outlines site v w) (sym same) k) in
        same_expr f g (cc)
    same_formula e f g (binary_is {a = x} {c = x2} {b = y} {d = y2} a b h h2) (binary_is {a = z} {c = z2} {b = w} {d = w2} c d k k2) =
        let same : x ≡ z = cc in
        let same2 : x2 ≡ z2 = cc in
        let part : y ≡ w = same_formula x y w h (subst (λ v. IsFormula outlines site v w) (sym same) k) in
        let part2 : y2 ≡ w2 = same_formula x2 y2 w2 h2 (subst (λ v. IsFormula outlines site v w2) (sym same2) k2) in
        same_expr f g (cc)

  pub same_site : (site : Site) (v w : MetaSite) → IsSite outlines site v → IsSite outlines site w → v ≡ w
  same_site site v w a b =
      let target =
      one_property_in outlines site.class site.class site.property site.property refl refl v.class v.property w.class w.property a.property b.property a.target b.target in
      let formals : v.formals ≡ w.formals =
      same_zip (λ (f : Formal) (c : ℕ). IsOutlineNamed outlines f.class c) site.formals v.formals w.formals
      (λ f c d h k. same_first (λ (o : Outline). o.name ≡ f.class) outlines c d h k) a.formals b.formals in
      ap (λ x. site_of x v.class v.property v.formals v.formula) (a.named ∙ sym b.named)
      ∙ ap (λ x. site_of w.name x v.property v.formals v.formula) target.0
      ∙ ap (λ x. site_of w.name w.class x v.formals v.formula) target.1
      ∙ ap (λ x. site_of w.name w.class w.property x v.formula) formals
      ∙ ap (λ x. site_of w.name w.class w.property w.formals x) (same_formula site site.expression v.formula w.formula a.formula b.formula)
