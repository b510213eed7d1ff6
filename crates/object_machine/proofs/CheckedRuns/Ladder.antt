-- Ranks and sets fall along edges, so a stack is no longer than the bound.
use Rattle.std.proofs.Common.{◌≡◌, ℕ, ◌+◌, ◌<◌, ◌≤◌, List, [], ◌∷◌, length, Option, slice_get, refl, sym, ap, ◌∙◌, arith}
use Rattle.std.proofs.lemmas.Option.{same_Some}
use Rattle.rank_check.proofs.Elements.{place_of}
use Rattle.meta_model.specs.Loaded.{Loaded}
use Rattle.meta_model.specs.Sound.{IsSound}
use Rattle.object_tree.specs.declared.object.Object.{Object}
use Rattle.effect_scan.specs.declared.node.Node.{Node}
use Rattle.effect_scan.specs.Edges.{MayLead}
use Rattle.effect_scan.specs.Laws.{IsNode}
use Rattle.effect_scan.proofs.Standing.{join_nodes}
use Rattle.certificate_lang.specs.declared.certificate.Line.{Line}
use Rattle.certificate_lang.specs.declared.certificate.Certificate.{Certificate}
use Rattle.rank_check.specs.Valid.{IsLineOf, IsValid}
use Rattle.machine_state.specs.State.{Activation, Body, Emit, Update, Destroy}
use Rattle.object_machine.proofs.CheckedRuns.Invariant.{AtNode, NodeLevel, Falls, IsNoHigher, Level, FallsTo, TopStands, Stacked}

pub higher-none : {p : Loaded} {a b c : Line} → IsNoHigher p a b → Falls p b c → Falls p a c
higher-none {c = c} up f = record { rank = omega (arith, up.rank, f.rank); set = λ d none. f.set d (up.set d none) }

-- what is on top of a stack stands
pub top-stands : (p : Loaded) {certificate : Certificate} (classes : ℕ → Option ℕ) (objects : List Object) (stack : List Activation) (levels : List (Level certificate)) → Stacked p classes objects stack levels → TopStands p objects stack
top-stands p classes objects [] levels st = tt
top-stands p classes objects (a ∷ below) [] st = absurd st
top-stands p classes objects (Body o m arguments left ∷ below) (r ∷ levels) st = ((st.0).node, (st.0).stands)
top-stands p classes objects (Emit o g arguments used last ∷ below) (r ∷ levels) st = tt
top-stands p classes objects (Update places ∷ below) (r ∷ levels) st = tt
top-stands p classes objects (Destroy next torn ∷ below) (r ∷ levels) st = tt

pub no-higher-self : {p : Loaded} {a : Line} → IsNoHigher p a a
no-higher-self = record { rank = omega arith; set = λ d none. none }

module _ {p : Loaded} {certificate : Certificate} (valid : IsValid p certificate) where
  -- it falls along each edge
  pub falls-along : {x y : Node} {a b : Line} → MayLead p x y → IsLineOf p certificate x a → IsLineOf p certificate y b → Falls p a b
  falls-along {x} {y} {a} {b} leads from to = record {
    rank = valid.ranks x y a b leads from to;
    set = λ d none held. none (valid.sets.passed_on x y a b d leads from to held);
  }

  -- each node has a line
  pub level-at : (x : Node) → IsNode p x → (r : NodeLevel p certificate) × (r.node ≡ x)
  level-at x is = let found = valid.each_node x is in (record { node = x; line = found.0; is = found.1 }, refl)

  -- the level of a node
  abbrev pub level-of : NodeLevel p certificate → Level certificate
  level-of r = record { line = r.line; low = valid.bounded.ranks r.line r.is.stands }

  -- .. of which this stands
  pub at-node : {P : Node → Type 0} (r : NodeLevel p certificate) → P r.node → AtNode p certificate (level-of r) P
  at-node r stands = record { node = r.node; is = r.is; stands = stands }

  -- so many ranks are below the one on top as activations stand below it
  pub climbs : (classes : ℕ → Option ℕ) (objects : List Object) (line : Line) (r : Level certificate) (levels : List (Level certificate)) (stack : List Activation) → r.line ≡ line → FallsTo p levels line → Stacked p classes objects stack levels → line.rank + length stack < certificate.bound
  climbs classes objects line r [] [] e falls st = let low = r.low in omega (arith, low, ap (λ (l : Line). l.rank) e)
  climbs classes objects line r [] (a ∷ stack) e falls st = absurd st
  climbs classes objects line r (s ∷ levels) [] e falls st = absurd st
  climbs classes objects line r (s ∷ levels) (a ∷ stack) e falls st =
      let rest = climbs classes objects s.line s levels stack refl st.1 st.2 in
      let fall = falls.rank in
      omega (arith, rest, fall)

  -- the stack is no longer than the bound
  pub no-deeper : (classes : ℕ → Option ℕ) (objects : List Object) (levels : List (Level certificate)) (stack : List Activation) → Stacked p classes objects stack levels → length stack ≤ certificate.bound
  no-deeper classes objects levels [] st = omega arith
  no-deeper classes objects [] (a ∷ stack) st = absurd st
  no-deeper classes objects (s ∷ levels) (a ∷ stack) st =
      let rest = climbs classes objects s.line s levels stack refl st.1 st.2 in
      omega (arith, rest)

  module _ (sound : IsSound p) where
    -- what an edge leads to has a line, and it falls to it
    pub falls-to : {x : Node} {a : Line} (y : Node) → IsLineOf p certificate x a → MayLead p x y → (r : NodeLevel p certificate) × (r.node ≡ y) × Falls p a r.line
    falls-to {x} {a} y from leads =
        let found = valid.each_node y (join_nodes sound x y leads).1 in
        (record { node = y; line = found.0; is = found.1 }, refl, falls-along leads from found.1)

    -- .. and so has what it leads from
    pub line-from : (x y : Node) → MayLead p x y → (line : Line) × IsLineOf p certificate x line
    line-from x y leads = valid.each_node x (join_nodes sound x y leads).0

-- a node has one line
pub line-unique : {p : Loaded} {certificate : Certificate} (x : Node) (a b : Line) → IsValid p certificate → IsLineOf p certificate x a → IsLineOf p certificate x b → a ≡ b
line-unique {certificate = certificate} x a b valid from other =
    let j = place_of certificate.lines a from.stands in
    let k = place_of certificate.lines b other.stands in
    let same = valid.nothing_else.once j.0 k.0 a b x j.1 k.1 from.named other.named in
    same_Some a b (sym j.1 ∙ ap (λ (n : ℕ). slice_get certificate.lines n) same ∙ k.1)
