-- What bindings read leads to what they bind: so values change only where ranks and sets are no higher than those of the
-- property that is written or bound, and no chain of bindings leads back.
use Rattle.std.{proofs.Common.{◌≡◌, ◌⊎◌, inl, inr, ℕ, zero, suc, ◌+◌, ◌<◌, ◌≤◌, List, [], ◌∷◌, ◌++◌, filter_map, Option, Some, None, slice_get, refl, sym, ap, ◌∙◌, subst, arith}, specs.List.{AllZip}, specs.Option.{option_map}, proofs.lemmas.Option.{same_Some, none-some}}
use Rattle.basic_types.specs.declared.value.Value.{Value}
use Rattle.syntax_trees.specs.{declared.syntax.Expr.{Expr}, declared.syntax.Expr.TheViews.{roll-Expr}, declared.syntax.Expr.TheFolds.{fold-roll-Expr, ind-Expr, map-Expr}}
use Rattle.syntax_trees.specs.declared.syntax.Expr.TheOpen as layer
use Rattle.meta_model.specs.{declared.site.SourceProperty.{SourceProperty}, Loaded.{Loaded}, Sites.{paths_in, paths_step}, Sound.{IsSound}}
use Rattle.binding_graph.{specs.declared.binding.Binding.{Binding}, specs.declared.place.Place.{Place}, specs.Bindings.{named_in, named_step, source_place, Reads, Settled, Chain, direct, further, Loop}, specs.Places.{property_of, In}, proofs.Naming.{value-agree}, proofs.Places.{decide_in}}
use Rattle.rank_check.{proofs.Elements.{element_at}, specs.Valid.{IsLineOf, IsValid}}
use Rattle.effect_scan.{specs.declared.node.Node.{Node}, specs.declared.node.Member.TheVariants.{Property}, specs.Edges.{MayLead, by_site}, specs.Nodes.{node}, proofs.Standing.{join_nodes}}
use Rattle.certificate_lang.specs.{declared.certificate.Line.{Line}, declared.certificate.Certificate.{Certificate}}
use Rattle.object_machine.proofs.{CheckedRuns.Invariant.{IsOf, IsSited}, CheckedRuns.Nodes.{found-in}, CheckedRuns.Ladder.{line-from, line-unique, level-at}}

-- ---- the names in an expression are its paths

abbrev NamedAlike : Expr SourceProperty → Type 0
NamedAlike z = named_in z ≡ paths_in z

opened : (l : layer.Expr-F SourceProperty (Expr SourceProperty)) → named_step (map-Expr SourceProperty (Expr SourceProperty) (List SourceProperty) named_in l) ≡ paths_step (map-Expr SourceProperty (Expr SourceProperty) (List SourceProperty) paths_in l) → NamedAlike (roll-Expr SourceProperty l)
opened l has = fold-roll-Expr SourceProperty (List SourceProperty) named_step l ∙ has ∙ sym (fold-roll-Expr SourceProperty (List SourceProperty) paths_step l)

same-layer : (y : layer.Expr-F SourceProperty ((z : Expr SourceProperty) × NamedAlike z)) → NamedAlike (roll-Expr SourceProperty (map-Expr SourceProperty ((z : Expr SourceProperty) × NamedAlike z) (Expr SourceProperty) (λ z. z.0) y))
same-layer (layer.Literal v) = opened (layer.Literal v) refl
same-layer (layer.Path s) = opened (layer.Path s) refl
same-layer (layer.Unary op x) = opened (layer.Unary op x.0) x.1
same-layer (layer.Binary op x y) = opened (layer.Binary op x.0 y.0) (ap (λ (l : List SourceProperty). l ++ named_in y.0) x.1 ∙ ap (λ (l : List SourceProperty). paths_in x.0 ++ l) y.1)

named-paths : (z : Expr SourceProperty) → NamedAlike z
named-paths = ind-Expr SourceProperty NamedAlike (λ x y is. subst (λ l. NamedAlike (roll-Expr SourceProperty l)) is (same-layer y))

-- ---- what is read

-- the places that names stand for
abbrev Stood : (SourceProperty → Option Place) → List SourceProperty → Place → Type 0
Stood f xs q = (k : ℕ) × (s : SourceProperty) × (slice_get xs k ≡ Some s) × (f s ≡ Some q)

stood-later : (f : SourceProperty → Option Place) (x : SourceProperty) (xs : List SourceProperty) (q : Place) → Stood f xs q → Stood f (x ∷ xs) q
stood-later f x xs q r = (suc r.0, r.1, r.2, r.3)

filtered-in : (f : SourceProperty → Option Place) (xs : List SourceProperty) (q : Place) → In q (filter_map f xs) → Stood f xs q
filtered-in f [] q i = absurd i
filtered-in f (x ∷ xs) q i = by_place (f x) refl i (λ j. filtered-in f xs q j)
  where
    by_place : (found : Option Place) → f x ≡ found → In q (filter_map f (x ∷ xs)) → (In q (filter_map f xs) → Stood f xs q) → Stood f (x ∷ xs) q
    by_place None is j more = stood-later f x xs q (more (rw is at j))
    by_place (Some r) is j more = elim (rw is at j) [
      | inl e ↦ (0, x, refl, is ∙ ap Some e)
      | inr rest ↦ stood-later f x xs q (more rest)
    ]

-- the class of an object that stands for a formal source
source-of : (p : Loaded) (classes : ℕ → Option ℕ) (sources formals : List ℕ) (k o : ℕ) → AllZip (IsOf p classes) sources formals → slice_get sources k ≡ Some o → (formal : ℕ) × (slice_get formals k ≡ Some formal) × IsOf p classes o formal
source-of p classes [] formals k o all is = absurd (none-some o is)
source-of p classes (x ∷ xs) [] k o all is = absurd all
source-of p classes (x ∷ xs) (f ∷ fs) zero o all is = (f, refl, subst (λ (y : ℕ). IsOf p classes y f) (same_Some x o is) all.0)
source-of p classes (x ∷ xs) (f ∷ fs) (suc k) o all is = source-of p classes xs fs k o all.1 is

-- the place of a source's property
source-place : (sources : List ℕ) (s : SourceProperty) (q : Place) → source_place sources s ≡ Some q → (o : ℕ) × (slice_get sources s.source ≡ Some o) × (property_of o s.property ≡ q)
source-place sources s q is = by_source (slice_get sources s.source) refl is
  where
    by_source : (found : Option ℕ) → slice_get sources s.source ≡ found → option_map (λ o. property_of o s.property) found ≡ Some q → (o : ℕ) × (slice_get sources s.source ≡ Some o) × (property_of o s.property ≡ q)
    by_source None e h = absurd (none-some q h)
    by_source (Some o) e h = (o, e, same_Some _ _ h)

-- a property that a binding reads leads to the one that it binds
pub reads-lead : {p : Loaded} {classes : ℕ → Option ℕ} {b : Binding} {m : Place} → (sited : IsSited p classes b) → Reads b m → (class : ℕ) × (classes m.object ≡ Some class) × MayLead p (node class (Property m.property)) (node sited.target.class (Property b.target.property))
reads-lead {p} {classes} {b} {m} sited reads =
    let named = filtered-in (source_place b.sources) (named_in b.formula) m reads in
    let path : slice_get (paths_in sited.site.formula) named.0 ≡ Some named.1 = ap (λ (l : List SourceProperty). slice_get l named.0) (sym (named-paths b.formula ∙ ap (λ (z : Expr SourceProperty). paths_in z) sited.formula)) ∙ named.2 in
    let place = source-place b.sources named.1 m named.3 in
    let formal = source-of p classes b.sources sited.site.formals (named.1).source place.0 sited.sources place.1 in
    let object : place.0 ≡ m.object = ap (λ (q : Place). q.object) place.2 in
    let property : (named.1).property ≡ m.property = ap (λ (q : Place). q.property) place.2 in (
      formal.2.class,
      ap classes (sym object) ∙ formal.2.is,
      by_site (record {
        site = sited.site;
        declared = found-in p.sites b.site sited.site sited.declared;
        source = named.1;
        reads = element_at (paths_in sited.site.formula) named.0 named.1 path;
        class = formal.0;
        formal = formal.1;
        from = record { below = formal.2.below; is = ap Property (sym property) };
        to = record { below = sited.target.below; is = ap Property sited.property };
      }),
    )

-- no chain of bindings that sites cover leads back to where it began
abbrev pub ChainsEnd : Loaded → Type 0
ChainsEnd p = (classes : ℕ → Option ℕ) (G : Place → Option Binding) → ((q : Place) (b : Binding) → G q ≡ Some b → IsSited p classes b × (b.target ≡ q)) → ¬ Loop G

-- ---- what changes

module _ {p : Loaded} {certificate : Certificate} (valid : IsValid p certificate) (sound : IsSound p) (classes : ℕ → Option ℕ)
    (G : Place → Option Binding) (sited : (q : Place) (b : Binding) → G q ≡ Some b → IsSited p classes b × (b.target ≡ q)) where
  -- a line of the property's node
  abbrev IsLineAt : Place → Line → Type 0
  IsLineAt q line = (class : ℕ) × (classes q.object ≡ Some class) × IsLineOf p certificate (node class (Property q.property)) line

  -- what the binding of a property reads has a line, from which it leads to that of the property
  read-line : (q m : Place) (b : Binding) (line : Line) → G q ≡ Some b → Reads b m → IsLineAt q line → (above : Line) × IsLineAt m above × ((x : Node) × (y : Node) × MayLead p x y × IsLineOf p certificate x above × IsLineOf p certificate y line)
  read-line q m b line is reads at =
      let found = sited q b is in
      let leads = reads-lead found.0 reads in
      let above = line-from valid sound _ _ leads.2 in
      let same_class : at.0 ≡ (found.0).target.class = same_Some _ _ (sym at.1 ∙ ap (λ (z : Place). classes z.object) (sym found.1) ∙ (found.0).target.is) in
      let here : IsLineOf p certificate (node (found.0).target.class (Property b.target.property)) line =
      subst (λ (c : ℕ). IsLineOf p certificate (node c (Property b.target.property)) line) same_class (subst (λ (z : Place). IsLineOf p certificate (node at.0 (Property z.property)) line) (sym found.1) at.2) in
      (above.0, (leads.0, leads.1, above.1), (_, _, leads.2, above.1, here))

  module _ (F : Place → Option Binding) (old new : Place → Option Value) (written : List Place)
      (settled_old : Settled F old) (settled_new : Settled G new)
      (same : (q : Place) (b : Binding) → ¬ In q written → G q ≡ Some b → F q ≡ Some b)
      (kept : (q : Place) → ¬ In q written → G q ≡ None → new q ≡ old q) where
    module _ (P : Line → Type 0) (closed : (x y : Node) (a b : Line) → MayLead p x y → IsLineOf p certificate x a → IsLineOf p certificate y b → P b → P a)
        (none : (q : Place) → In q written → (line : Line) → IsLineAt q line → ¬ P line) where
      -- a property with P, which those that are written don't have, keeps its value
      pub unchanged : (n : ℕ) (q : Place) (line : Line) → IsLineAt q line → P line → certificate.bound ≤ line.rank + n → new q ≡ old q
      unchanged zero q line at has fuel = let low = valid.bounded.ranks line at.2.stands in absurd (omega (arith, low, fuel))
      unchanged (suc n) q line at has fuel = by_place (decide_in q written) (λ b m is reads.
          let r = read-line q m b line is reads at in
          let fall = valid.ranks r.2.0 r.2.1 r.0 line r.2.2 r.2.3 r.2.4 in
          unchanged n m r.0 r.1 (closed r.2.0 r.2.1 r.0 line r.2.2 r.2.3 r.2.4 has) (omega (arith, fall, fuel)))
        where
          by_binding : ¬ In q written → (found : Option Binding) → G q ≡ found → ((b : Binding) (m : Place) → G q ≡ Some b → Reads b m → new m ≡ old m) → new q ≡ old q
          by_binding other None is more = kept q other is
          by_binding other (Some b) is more =
              settled_new q b is ∙ value-agree b new old (λ m reads. more b m is reads) ∙ sym (settled_old q b (same q b other is))

          by_place : In q written ⊎ (¬ In q written) → ((b : Binding) (m : Place) → G q ≡ Some b → Reads b m → new m ≡ old m) → new q ≡ old q
          by_place (inl here) more = absurd (none q here line at has)
          by_place (inr other) more = by_binding other (G q) refl more

  -- ---- chains of bindings
  -- the rank falls along each
  chain-falls : (a c : Place) (line : Line) → Chain G a c → IsLineAt c line → (above : Line) × IsLineAt a above × (line.rank < above.rank)
  chain-falls a c line (direct b is reads) at =
      let r = read-line c a b line is reads at in
      (r.0, r.1, valid.ranks r.2.0 r.2.1 r.0 line r.2.2 r.2.3 r.2.4)
  chain-falls a c line (further {m = m} b chain is reads) at =
      let r = read-line c m b line is reads at in
      let fall = valid.ranks r.2.0 r.2.1 r.0 line r.2.2 r.2.3 r.2.4 in
      let rest = chain-falls a m r.0 chain r.1 in
      let more = rest.2 in
      (rest.0, rest.1, omega (arith, fall, more))

  -- what is bound has a line
  bound-line : (q : Place) (b : Binding) (m : Place) → G q ≡ Some b → Reads b m → (line : Line) × IsLineAt q line
  bound-line q b m is reads =
      let found = sited q b is in
      let target = (found.0).target in
      let leads = reads-lead found.0 reads in
      let r = level-at valid (node target.class (Property b.target.property)) (join_nodes sound _ _ leads.2).1 in
      let here = subst (λ (x : Node). IsLineOf p certificate x (r.0).line) r.1 (r.0).is in
      ((r.0).line, (target.class, subst (λ (z : Place). classes z.object ≡ Some target.class) found.1 target.is, subst (λ (z : Place). IsLineOf p certificate (node target.class (Property z.property)) (r.0).line) found.1 here))

  chain-line : (a c : Place) → Chain G a c → (line : Line) × IsLineAt c line
  chain-line a c (direct b is reads) = bound-line c b a is reads
  chain-line a c (further {m = m} b chain is reads) = bound-line c b m is reads

  -- so none leads back
  pub no-loop : ¬ Loop G
  no-loop loop =
      let q : Place = loop.0 in
      let at = chain-line q q loop.1 in
      let up = chain-falls q q at.0 loop.1 at.1 in
      let same_class : (up.1).0 ≡ (at.1).0 = same_Some _ _ (sym (up.1).1 ∙ (at.1).1) in
      let one = line-unique _ up.0 at.0 valid (subst (λ (c : ℕ). IsLineOf p certificate (node c (Property q.property)) up.0) same_class (up.1).2) (at.1).2 in
      let same_rank = ap (λ (l : Line). l.rank) one in
      let fall = up.2 in
      omega (arith, fall, same_rank)

pub chains-end : {p : Loaded} {certificate : Certificate} → IsValid p certificate → IsSound p → ChainsEnd p
chains-end valid sound classes G sited = no-loop valid sound classes G sited
