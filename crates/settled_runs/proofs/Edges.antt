-- What a valid settling certificate says of edges (docs/settling-proof.md, "Edges").
use Rattle.std.proofs.Common.{◌≡◌, ℕ, ◌+◌, ◌*◌, ◌<◌, ◌≤◌, Option, None, Some, slice_get, refl, sym, ap, ◌∙◌, subst}
use Rattle.std.specs.List.{Contains}
use Rattle.std.proofs.lemmas.Option.{same_Some, none-some}
use Rattle.meta_model.specs.Loaded.{Loaded}
use Rattle.meta_model.specs.Sound.{IsSound}
use Rattle.effect_scan.specs.declared.node.Node.{Node}
use Rattle.effect_scan.specs.declared.node.Member.TheVariants.{Property}
use Rattle.effect_scan.specs.Edges.{MayLead, by_site, BySite}
use Rattle.effect_scan.specs.Nodes.{node}
use Rattle.effect_scan.proofs.Standing.{join_nodes}
use Rattle.binding_graph.specs.declared.place.Place.{Place}
use Rattle.rank_check.proofs.Elements.{place_of, element_at}
use Rattle.settling.specs.declared.certificate.SettlingLine.{SettlingLine}
use Rattle.settling.specs.declared.certificate.SettlingSet.{SettlingSet}
use Rattle.settling.specs.declared.certificate.SettlingCertificate.{SettlingCertificate}
use Rattle.settling.specs.Sets.{IsMember, AreTogether}
use Rattle.settling.specs.Valid.{IsLineOf, IsRound, IsValid}
use Rattle.settled_runs.specs.Levels.{AreCosts}
use Rattle.settled_runs.specs.Writes.{IsAtNode, IsLineAt}

-- a place is at one node
pub one-node : {classes : ℕ → Option ℕ} {q : Place} {x y : Node} → IsAtNode classes q x → IsAtNode classes q y → x ≡ y
one-node {q = q} a b = a.at ∙ ap (λ (c : ℕ). node c (Property q.property)) (same_Some _ _ (sym a.is ∙ b.is)) ∙ sym b.at

module _ {p : Loaded} {certificate : SettlingCertificate} (valid : IsValid p certificate) where
  -- a node has one line
  pub one-line : (x : Node) (a b : SettlingLine) → IsLineOf p certificate x a → IsLineOf p certificate x b → a ≡ b
  one-line x a b from other =
      let j = place_of certificate.lines a from.stands in
      let k = place_of certificate.lines b other.stands in
      let same = valid.nothing_else.once j.0 k.0 a b x j.1 k.1 from.named other.named in
      same_Some a b (sym j.1 ∙ ap (λ (n : ℕ). slice_get certificate.lines n) same ∙ k.1)

  pub line-at : {classes : ℕ → Option ℕ} {q : Place} {x : Node} {line : SettlingLine} → IsLineAt p certificate classes q line → IsAtNode classes q x → IsLineOf p certificate x line
  line-at {line = line} l at = subst (λ (z : Node). IsLineOf p certificate z line) (one-node l.at at) l.is

  -- a site leads from one set to another, so the rank falls
  pub site-apart : {x y : Node} → BySite p x y → ¬ AreTogether p certificate x y
  site-apart {x} {y} site together = valid.edges.within x y together (by_site site) (by_site site)

  pub site-falls : {x y : Node} {a b : SettlingLine} → BySite p x y → IsLineOf p certificate x a → IsLineOf p certificate y b → b.rank < a.rank
  site-falls {x} {y} {a} {b} site from to = valid.edges.falls x y a b (by_site site) from to (site-apart site)

  abbrev Costs : ℕ → ℕ → Type 0
  Costs k n = (set : SettlingSet) → slice_get certificate.sets k ≡ Some set → (round : IsRound p certificate set) × (n ≡ set.round * round.most)

  -- a set adds what its round says
  pub set-costs : (cost : ℕ → ℕ) × AreCosts p certificate cost
  set-costs = (λ k. (costs-of k).0, λ k. (costs-of k).1)
    where
      by_set : (k : ℕ) (found : Option SettlingSet) → slice_get certificate.sets k ≡ found → (n : ℕ) × Costs k n
      by_set k None e = (0, λ set at. absurd (none-some set (sym e ∙ at)))
      by_set k (Some found) e =
          let own = valid.rounds found (element_at certificate.sets k found e) in
          (found.round * own.most, λ set at. subst (λ (s : SettlingSet). (round : IsRound p certificate s) × (found.round * own.most ≡ s.round * round.most)) (same_Some found set (sym e ∙ at)) (own, refl))

      costs-of : (k : ℕ) → (n : ℕ) × Costs k n
      costs-of k = by_set k (slice_get certificate.sets k) refl

  -- what leaves a set falls by a step for each property and turn of it
  pub leaves-set : {x y : Node} {a b : SettlingLine} (set : SettlingSet) (round : IsRound p certificate set) → Contains certificate.sets set → IsMember p set x → MayLead p x y → (¬ AreTogether p certificate x y)
      → IsLineOf p certificate x a → IsLineOf p certificate y b → b.step + set.round * round.most ≤ a.step
  leaves-set {x} {y} {a} {b} set round there member leads apart from to =
      let k = place_of certificate.sets set there in
      round.leaves x y a b leads member (λ other. apart (k.0, record { set = set; stands = k.1; member = member }, record { set = set; stands = k.1; member = other })) from to

  module _ (sound : IsSound p) where
    -- what an edge joins has lines
    pub line-before : {x y : Node} → MayLead p x y → (line : SettlingLine) × IsLineOf p certificate x line
    line-before {x} {y} leads = valid.each_node x (join_nodes sound x y leads).0

    pub line-after : {x y : Node} → MayLead p x y → (line : SettlingLine) × IsLineOf p certificate y line
    line-after {x} {y} leads = valid.each_node y (join_nodes sound x y leads).1
