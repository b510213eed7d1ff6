-- Why no certificate is valid where a walk isn't allowed: along a walk ranks fall, and sets are carried back.
use Rattle.std.proofs.Common.{◌≡◌, ℕ, zero, suc, ◌+◌, ◌<◌, ◌≤◌, List, [], ◌∷◌, length, slice_get, Some, sym, ap, ◌∙◌, subst, arith}
use Rattle.std.proofs.lemmas.Option.{same_Some, none-some}
use Rattle.std.specs.List.{Contains}
use Rattle.meta_model.specs.Loaded.{Loaded}
use Rattle.effect_scan.specs.declared.node.Node.{Node}
use Rattle.effect_scan.specs.declared.node.Member.TheVariants as member
use Rattle.effect_scan.specs.Edges.{MayLead}
use Rattle.effect_scan.specs.Laws.{IsNode, EdgesJoinNodes}
use Rattle.certificate_lang.specs.declared.certificate.Line.{Line}
use Rattle.certificate_lang.specs.declared.certificate.Certificate.{Certificate}
use Rattle.type_check.specs.declared.spot.Spot.TheVariants as spot
use Rattle.type_check.specs.Typed.{FindsUntyped}
use Rattle.rank_check.specs.Valid.{IsLineOf, Destroys, HasBody, IsValid}
use Rattle.rank_check.proofs.Elements.{place_of}
use Rattle.rank_graph.specs.Walks.{LeadsBy, IsWalk, ComesBack}
use Rattle.rank_make.specs.Walks.{IsToldCycle, LeadsToDestruction, IsDestroyPath, IsHighChain}
use Rattle.rank_make.specs.Makes.{NoneIsValid}

module _ (p : Loaded) (join : EdgesJoinNodes p) where
  -- a walk of an edge or more begins at a node
  pub begins_at_node : (x : Node) (zs : List Node) (y : Node) → LeadsBy (MayLead p) x zs y → 0 < length zs → IsNode p x
  begins_at_node x [] y leads some = absurd (omega arith)
  begins_at_node x (z ∷ zs) y leads some = (join x z leads.0).0

  -- a path to a destruction has an edge
  pub path_some : (x : Node) (zs : List Node) (y : Node) → LeadsBy (MayLead p) x zs y → HasBody p x → y.member ≡ member.Destruction → 0 < length zs
  path_some x [] y leads body destruction = let same : x ≡ y = leads in let from = body.from in let e = ap (λ (n : Node). n.member) same in absurd (cc)
  path_some x (z ∷ zs) y leads body destruction = omega arith

  module _ (certificate : Certificate) (valid : IsValid p certificate) where
    -- a node has one line
    one_line : (x : Node) (a b : Line) → IsLineOf p certificate x a → IsLineOf p certificate x b → a ≡ b
    one_line x a b h g =
        let i = place_of certificate.lines a h.stands in
        let j = place_of certificate.lines b g.stands in
        let same : i.0 ≡ j.0 = valid.nothing_else.once i.0 j.0 a b x i.1 j.1 h.named g.named in
        same_Some a b (sym i.1 ∙ ap (slice_get certificate.lines) same ∙ j.1)

    pub walk_falls : (x : Node) (zs : List Node) (y : Node) (a : Line) → LeadsBy (MayLead p) x zs y → IsLineOf p certificate x a → (b : Line) × IsLineOf p certificate y b × (b.rank + length zs ≤ a.rank)
    walk_falls x [] y a leads h = let same : x ≡ y = leads in (a, subst (λ (n : Node). IsLineOf p certificate n a) same h, omega arith)
    walk_falls x (z ∷ zs) y a leads h =
        let line = valid.each_node z ((join x z leads.0).1) in
        let rest = walk_falls z zs y line.0 leads.1 line.1 in
        let low = valid.ranks x z a line.0 leads.0 h line.1 in
        let more = rest.2 in
        (rest.0, rest.1, omega arith)

    pub walk_carries : (x : Node) (zs : List Node) (y : Node) (a b : Line) (d : ℕ) → LeadsBy (MayLead p) x zs y → IsLineOf p certificate x a → IsLineOf p certificate y b → Destroys p b d → Destroys p a d
    walk_carries x [] y a b d leads h g destroys =
        let same : y ≡ x = sym leads in
        let line : b ≡ a = one_line x b a (subst (λ (n : Node). IsLineOf p certificate n b) same g) h in
        subst (λ (l : Line). Destroys p l d) line destroys
    walk_carries x (z ∷ zs) y a b d leads h g destroys =
        let line = valid.each_node z ((join x z leads.0).1) in
        valid.sets.passed_on x z a line.0 d leads.0 h line.1 (walk_carries z zs y line.0 b d leads.1 line.1 g destroys)

    cycle_invalid : (x : Node) (nodes : List Node) → ComesBack (MayLead p) x nodes → ⊥
    cycle_invalid x nodes cycle =
        let walk = cycle.walk in
        let count = ap (λ (ns : List Node). length ns) walk.nodes_are in
        let more = cycle.some in
        let some : 0 < length walk.after = omega arith in
        let line = valid.each_node x (begins_at_node x walk.after x walk.leads some) in
        let end = walk_falls x walk.after x line.0 walk.leads line.1 in
        let same : (end.0).rank ≡ (line.0).rank = ap (λ (l : Line). l.rank) (one_line x end.0 line.0 end.1 line.1) in
        let low = end.2 in
        omega arith

    path_invalid : (nodes : List Node) → LeadsToDestruction p nodes → ⊥
    path_invalid nodes path =
        let walk = path.walk in
        let some = path_some path.from walk.after path.to walk.leads path.body path.destruction in
        let line = valid.each_node path.from (begins_at_node path.from walk.after path.to walk.leads some) in
        let end = walk_falls path.from walk.after path.to line.0 walk.leads line.1 in
        let destroys = valid.sets.closures path.to end.0 path.from.class path.destruction end.1 path.holds in
        valid.sets.spared path.from line.0 path.body line.1 (walk_carries path.from walk.after path.to line.0 end.0 path.from.class walk.leads line.1 end.1 destroys)

    chain_invalid : (nodes : List Node) → IsHighChain p nodes → ⊥
    chain_invalid nodes chain =
        let walk = chain.1.path.walk in
        let count = ap (λ (ns : List Node). length ns) walk.nodes_are in
        let high = chain.1.edges in
        let some : 0 < length walk.after = omega arith in
        let line = valid.each_node chain.0 (begins_at_node chain.0 walk.after chain.1.to walk.leads some) in
        let end = walk_falls chain.0 walk.after chain.1.to line.0 walk.leads line.1 in
        let low = end.2 in
        let below = valid.bounded.ranks line.0 (line.1).stands in
        let most = valid.bounded.bound in
        omega arith

  pub cycle_bars : (nodes : List Node) → IsToldCycle p nodes → NoneIsValid p
  cycle_bars nodes told certificate valid = cycle_invalid certificate valid told.first nodes told.cycle.comes_back

  pub path_bars : (nodes : List Node) → IsDestroyPath p nodes → NoneIsValid p
  path_bars nodes path certificate valid = path_invalid certificate valid nodes path.leads

  pub chain_bars : (nodes : List Node) → IsHighChain p nodes → NoneIsValid p
  chain_bars nodes chain certificate valid = chain_invalid certificate valid nodes chain

  -- ---- what a reason names are nodes
  walk_nodes : (x : Node) (zs : List Node) (y : Node) → LeadsBy (MayLead p) x zs y → IsNode p x → (k : ℕ) (z : Node) → slice_get (x ∷ zs) k ≡ Some z → IsNode p z
  walk_nodes x zs y leads node zero z at = subst (λ (n : Node). IsNode p n) (same_Some x z at) node
  walk_nodes x [] y leads node (suc k) z at = absurd (none-some z at)
  walk_nodes x (w ∷ ws) y leads node (suc k) z at = walk_nodes w ws y leads.1 ((join x w leads.0).1) k z at

  named_nodes : (x y : Node) (nodes : List Node) → IsWalk (MayLead p) x y nodes → 1 < length nodes → (z : Node) → Contains nodes z → IsNode p z
  named_nodes x y nodes walk more z held =
      let count = ap (λ (ns : List Node). length ns) walk.nodes_are in
      let some : 0 < length walk.after = omega arith in
      let at = place_of nodes z held in
      walk_nodes x walk.after y walk.leads (begins_at_node x walk.after y walk.leads some) at.0 z (subst (λ (ns : List Node). slice_get ns at.0 ≡ Some z) walk.nodes_are at.1)

  pub cycle_nodes : (nodes : List Node) → IsToldCycle p nodes → (z : Node) → Contains nodes z → IsNode p z
  cycle_nodes nodes told = named_nodes told.first told.first nodes told.cycle.comes_back.walk told.cycle.comes_back.some

  pub path_nodes : (nodes : List Node) → IsDestroyPath p nodes → (z : Node) → Contains nodes z → IsNode p z
  path_nodes nodes told =
      let path = told.leads in
      let walk = path.walk in
      let count = ap (λ (ns : List Node). length ns) walk.nodes_are in
      let some = path_some path.from walk.after path.to walk.leads path.body path.destruction in
      named_nodes path.from path.to nodes walk (omega arith)

  pub chain_nodes : (nodes : List Node) → IsHighChain p nodes → (z : Node) → Contains nodes z → IsNode p z
  chain_nodes nodes chain = let count = chain.1.edges in named_nodes chain.0 chain.1.to nodes chain.1.path.walk (omega arith)

pub spot_node : (p : Loaded) (x : Node) → FindsUntyped p (Some (spot.Node x)) → IsNode p x
spot_node p x h = (h.number, h.first.is)
