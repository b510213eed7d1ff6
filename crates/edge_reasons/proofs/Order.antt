-- The statements of a body in order: a statement, then what is in it, then what is behind it.
use Rattle.std.proofs.Common.{◌≡◌, List, [], ◌∷◌, ◌++◌, map, flat_map, refl, sym, ap, ◌∙◌, subst, append-nil, append_assoc}
use Rattle.syntax_trees.specs.declared.syntax.Expr.{Expr}
use Rattle.meta_model.specs.declared.object.MetaPath.{MetaPath}
use Rattle.meta_model.specs.declared.object.Statement.{Statement}
use Rattle.meta_model.specs.declared.object.Statement.TheOpen as layer
use Rattle.meta_model.specs.declared.object.Statement.TheViews.{out-Statement, roll-Statement, roll-out-Statement, out-roll-Statement}
use Rattle.meta_model.specs.declared.object.Statement.TheVariants as whole
use Rattle.meta_model.specs.declared.object.Statement.TheFolds.{fold-Statement, fold-roll-Statement, ind-Statement, map-Statement}
use Rattle.effect_scan.proofs.Occurring.{IsPlain, HasNoBlocks, no_blocks}
use Rattle.edge_reasons.specs.Order.{WithParts, inside, order_step, with_parts, in_order}

-- ---- a statement stands before what is in it
abbrev IsItself : Statement → Type 0
IsItself t = (fold-Statement WithParts order_step t).0 ≡ t

abbrev Known : Type 0
Known = (t : Statement) × IsItself t

all_themselves : (known : List Known) → map (λ part. part.0) (map (fold-Statement WithParts order_step) (map (λ k. k.0) known)) ≡ map (λ k. k.0) known
all_themselves [] = refl
all_themselves (k ∷ known) = ap (λ (t : Statement). t ∷ map (λ part. part.0) (map (fold-Statement WithParts order_step) (map (λ k. k.0) known))) k.1 ∙ ap (λ (ts : List Statement). k.0 ∷ ts) (all_themselves known)

layer_itself : (y : layer.Statement-F Known) → IsItself (roll-Statement (map-Statement Known Statement (λ k. k.0) y))
layer_itself (layer.Set path q e) = ap (λ (w : WithParts). w.0) (fold-roll-Statement WithParts order_step (layer.Set path q e))
layer_itself (layer.Emit m es) = ap (λ (w : WithParts). w.0) (fold-roll-Statement WithParts order_step (layer.Emit m es))
layer_itself (layer.Call path m es) = ap (λ (w : WithParts). w.0) (fold-roll-Statement WithParts order_step (layer.Call path m es))
layer_itself (layer.If e block other) =
    ap (λ (w : WithParts). w.0) (fold-roll-Statement WithParts order_step (layer.If e (map (λ k. k.0) block) (map (λ k. k.0) other)))
    ∙ ap (λ (ts : List Statement). roll-Statement (layer.If e ts (map (λ part. part.0) (map (fold-Statement WithParts order_step) (map (λ k. k.0) other))))) (all_themselves block)
    ∙ ap (λ (ts : List Statement). roll-Statement (layer.If e (map (λ k. k.0) block) ts)) (all_themselves other)
layer_itself (layer.Connect ends how) = ap (λ (w : WithParts). w.0) (fold-roll-Statement WithParts order_step (layer.Connect ends how))
layer_itself (layer.Disconnect ends) = ap (λ (w : WithParts). w.0) (fold-roll-Statement WithParts order_step (layer.Disconnect ends))
layer_itself (layer.Delete path) = ap (λ (w : WithParts). w.0) (fold-roll-Statement WithParts order_step (layer.Delete path))
layer_itself (layer.Later path) = ap (λ (w : WithParts). w.0) (fold-roll-Statement WithParts order_step (layer.Later path))
layer_itself (layer.Group sets) =
    ap (λ (w : WithParts). w.0) (fold-roll-Statement WithParts order_step (layer.Group (map (λ k. k.0) sets)))
    ∙ ap (λ (ts : List Statement). roll-Statement (layer.Group ts)) (all_themselves sets)

itself : (t : Statement) → IsItself t
itself = ind-Statement IsItself (λ x y is. subst (λ l. IsItself (roll-Statement l)) is (layer_itself y))

-- ---- a statement with those in it, by what it is
joined : (body : List Statement) → flat_map (λ parts. parts) (map (λ part. part.1) (map (fold-Statement WithParts order_step) body)) ≡ in_order body
joined [] = refl
joined (t ∷ body) = ap (λ (ts : List Statement). with_parts t ++ ts) (joined body)

opened : (t : Statement) (l : layer.Statement-F Statement) → out-Statement t ≡ l
    → with_parts t ≡ t ∷ inside (map-Statement WithParts (List Statement) (λ part. part.1) (map-Statement Statement WithParts (fold-Statement WithParts order_step) l))
opened t l is =
    let made : fold-Statement WithParts order_step t ≡ order_step (map-Statement Statement WithParts (fold-Statement WithParts order_step) l) =
    ap (fold-Statement WithParts order_step) (sym (roll-out-Statement t) ∙ ap roll-Statement is) ∙ fold-roll-Statement WithParts order_step l in
    let parts : List Statement = inside (map-Statement WithParts (List Statement) (λ part. part.1) (map-Statement Statement WithParts (fold-Statement WithParts order_step) l)) in
    ap (λ (w : WithParts). w.1) made ∙ ap (λ (s : Statement). s ∷ parts) (sym (ap (λ (w : WithParts). w.0) made) ∙ itself t)

-- what is in it
pub parts_of : Statement → List Statement
parts_of t = inside (map-Statement WithParts (List Statement) (λ part. part.1) (map-Statement Statement WithParts (fold-Statement WithParts order_step) (out-Statement t)))

pub order_opened : (t : Statement) → with_parts t ≡ t ∷ parts_of t
unfolding parts_of
order_opened t = opened t (out-Statement t) refl

pub order_blocks : (t : Statement) (e : Expr MetaPath) (block other : List Statement) → out-Statement t ≡ layer.If e block other → with_parts t ≡ t ∷ (in_order block ++ in_order other)
order_blocks t e block other is =
    opened t (layer.If e block other) is
    ∙ ap (λ (ts : List Statement). t ∷ (ts ++ flat_map (λ parts. parts) (map (λ part. part.1) (map (fold-Statement WithParts order_step) other)))) (joined block)
    ∙ ap (λ (ts : List Statement). t ∷ (in_order block ++ ts)) (joined other)

pub order_if : (t : Statement) (e : Expr MetaPath) (block other : List Statement) → t ≡ whole.If e block other → with_parts t ≡ t ∷ (in_order block ++ in_order other)
order_if t e block other is = order_blocks t e block other (ap out-Statement is ∙ whole.outs-If e block other)

pub order_sets : (t : Statement) (sets : List Statement) → out-Statement t ≡ layer.Group sets → with_parts t ≡ t ∷ in_order sets
order_sets t sets is = opened t (layer.Group sets) is ∙ ap (λ (ts : List Statement). t ∷ ts) (joined sets)

pub order_group : (t : Statement) (sets : List Statement) → t ≡ whole.Group sets → with_parts t ≡ t ∷ in_order sets
order_group t sets is = order_sets t sets (ap out-Statement is ∙ whole.outs-Group sets)

has_nothing : (l : layer.Statement-F Statement) → HasNoBlocks l → inside (map-Statement WithParts (List Statement) (λ part. part.1) (map-Statement Statement WithParts (fold-Statement WithParts order_step) l)) ≡ []
has_nothing (layer.Set path q e) none = refl
has_nothing (layer.Emit m es) none = refl
has_nothing (layer.Call path m es) none = refl
has_nothing (layer.If e block other) none = absurd (none.0 e block other refl)
has_nothing (layer.Connect ends how) none = refl
has_nothing (layer.Disconnect ends) none = refl
has_nothing (layer.Delete path) none = refl
has_nothing (layer.Later path) none = refl
has_nothing (layer.Group sets) none = absurd (none.1 sets refl)

pub order_plain : (t : Statement) → IsPlain t → with_parts t ≡ t ∷ []
order_plain t bare = opened t (out-Statement t) refl ∙ ap (λ (ts : List Statement). t ∷ ts) (has_nothing (out-Statement t) (no_blocks t bare))

pub opened_plain : (l : layer.Statement-F Statement) → inside (map-Statement WithParts (List Statement) (λ part. part.1) (map-Statement Statement WithParts (fold-Statement WithParts order_step) l)) ≡ [] → with_parts (roll-Statement l) ≡ roll-Statement l ∷ []
opened_plain l none = opened (roll-Statement l) l (out-roll-Statement l) ∙ ap (λ (ts : List Statement). roll-Statement l ∷ ts) none

-- ---- bodies
pub order_append : (xs ys : List Statement) → in_order (xs ++ ys) ≡ in_order xs ++ in_order ys
order_append [] ys = refl
order_append (x ∷ xs) ys = ap (λ (ts : List Statement). with_parts x ++ ts) (order_append xs ys) ∙ sym (append_assoc (with_parts x) (in_order xs) (in_order ys))

pub order_one : (t : Statement) → in_order (t ∷ []) ≡ with_parts t
order_one t = append-nil (with_parts t)
