-- What the expression of a binding reads, by its parts.
use Rattle.std.proofs.Common.{◌≡◌, ◌↔◌, ◌⊎◌, inl, inr, ℕ, List, [], ◌∷◌, ◌++◌, sym, ap, ◌∙◌, subst}
use Rattle.std.specs.List.{Contains}
use Rattle.std.proofs.lemmas.List.Elements.{Contains-append_left, Contains-append_right, Contains-append_cases, Contains-push, Contains-push_cases}
use Rattle.basic_types.specs.declared.value.Value.{Value}
use Rattle.syntax_trees.specs.declared.syntax.Unary.{Unary}
use Rattle.syntax_trees.specs.declared.syntax.Binary.{Binary}
use Rattle.syntax_trees.specs.declared.syntax.Expr.{Expr}
use Rattle.syntax_trees.specs.declared.syntax.Expr.TheVariants as e
use Rattle.syntax_trees.specs.declared.syntax.Expr.TheOpen as layer
use Rattle.meta_model.specs.declared.site.SourceProperty.{SourceProperty}
use Rattle.meta_model.specs.Loaded.{Loaded}
use Rattle.meta_model.specs.Sites.{paths_in}
use Rattle.meta_model.proofs.PathsIn.{paths_of, paths-Path, paths-Unary, paths-Binary}
use Rattle.effect_scan.specs.declared.node.Node.{Node}
use Rattle.edge_reasons.specs.Reasons.{IsSource, Reads}
use Rattle.effect_scan.proofs.Adding.{no_members}

abbrev Expression : Type 0
Expression = Expr SourceProperty

module _ (p : Loaded) (formals : List ℕ) (x : Node) where
  -- it reads what it names
  abbrev Among : List SourceProperty → Type 0
  Among named = (source : SourceProperty) × Contains named source × IsSource p formals x source

  reads_of : (z : Expression) (named : List SourceProperty) → paths_in z ≡ named → Reads p formals x z ↔ Among named
  reads_of z named is = (
    λ h. (h.source, subst (λ (l : List SourceProperty). Contains l h.source) is h.among, h.is),
    λ h. record { source = h.0; among = subst (λ (l : List SourceProperty). Contains l h.0) (sym is) h.1; is = h.2 },
  )

  pub reads_literal : (z : Expression) (v : Value) → z ≡ e.Literal v → ¬ Reads p formals x z
  reads_literal z v is h =
      no_members h.source (subst (λ (l : List SourceProperty). Contains l h.source) (ap paths_in is ∙ paths_of (e.Literal v) (layer.Literal v) (e.outs-Literal v)) h.among)

  pub reads_path : (z : Expression) (s : SourceProperty) → z ≡ e.Path s → IsSource p formals x s ↔ Reads p formals x z
  reads_path z s is =
      let of = reads_of z (s ∷ []) (ap paths_in is ∙ paths-Path s) in (
        λ h. of.1 (s, Contains-push [] s, h),
        λ h.
            let k = of.0 h in
            elim (Contains-push_cases [] s k.0 k.1) [
              | inl none ↦ absurd (no_members k.0 none)
              | inr same ↦ subst (λ (q : SourceProperty). IsSource p formals x q) (sym same) k.2
            ],
      )

  pub reads_same : (z a c : Expression) (op : Unary) → z ≡ e.Unary op a → c ≡ a → Reads p formals x c ↔ Reads p formals x z
  reads_same z a c op is same =
      let of = reads_of z (paths_in c) (ap paths_in is ∙ paths-Unary op a ∙ ap paths_in (sym same)) in (
        λ h. of.1 (h.source, h.among, h.is),
        λ h. let k = of.0 h in record { source = k.0; among = k.1; is = k.2 },
      )

  module _ (z a b c d : Expression) (op : Binary) (is : z ≡ e.Binary op a b) (first : c ≡ a) (second : d ≡ b) where
    of_both : Reads p formals x z ↔ Among (paths_in c ++ paths_in d)
    of_both =
        reads_of z (paths_in c ++ paths_in d)
        (ap paths_in is ∙ paths-Binary op a b ∙ ap (λ (l : List SourceProperty). l ++ paths_in b) (ap paths_in (sym first)) ∙ ap (λ (l : List SourceProperty). paths_in c ++ l) (ap paths_in (sym second)))

    pub reads_left : Reads p formals x c → Reads p formals x z
    reads_left h = of_both.1 (h.source, Contains-append_left (paths_in c) (paths_in d) h.source h.among, h.is)

    pub reads_right : Reads p formals x d → Reads p formals x z
    reads_right h = of_both.1 (h.source, Contains-append_right (paths_in c) (paths_in d) h.source h.among, h.is)

    pub reads_either : Reads p formals x z → Reads p formals x c ⊎ Reads p formals x d
    reads_either h =
        let k = of_both.0 h in
        elim (Contains-append_cases (paths_in c) (paths_in d) k.0 k.1) [
          | inl l ↦ inl (record { source = k.0; among = l; is = k.2 })
          | inr r ↦ inr (record { source = k.0; among = r; is = k.2 })
        ]
