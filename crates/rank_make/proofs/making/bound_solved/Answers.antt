use Rattle.std.proofs.Common.{◌≡◌, ◌⊎◌, ℕ, ◌+◌, ◌<◌, List, length, ap, ◌∙◌, subst}
use Rattle.effect_scan.specs.declared.node.Node.{Node}
use Rattle.effect_scan.specs.Nodes.{nodes_of}
use Rattle.rank_graph.specs.Solutions.{rank_of, leads_of}
use Rattle.rank_make.proofs.Barred.{path_bars, chain_bars}
use Rattle.rank_make.proofs.Numbers.{no_cycle, no_path}
use Rattle.rank_make.proofs.Lined.{made}
use Rattle.rank_make.proofs.making.bound_solved.Goals as goal

pub returns-in-Some : goal.returns-in-Some
returns-in-Some c =
    let path = rw c.in-Some.is at c.in_ok-nodes.ensures in (
      c.requires.ready,
      no_cycle c.args.meta.now c.args.scan.now c.requires.scan (rank_of c.args.solution.now) (leads_of c.args.solution.now) c.requires.solved c.edges_join_nodes.ensures,
      path,
      path_bars c.args.meta.now c.edges_join_nodes.ensures c.in-Some.nodes path,
    )

pub returns-in-Some-2 : goal.returns-in-Some-2
returns-in-Some-2 c =
    let none = rw c.in_default.is at c.in_ok-nodes.ensures in
    let chain = rw c.in-Some-2.is at c.in_ok-nodes-2.ensures in (
      c.requires.ready,
      no_cycle c.args.meta.now c.args.scan.now c.requires.scan (rank_of c.args.solution.now) (leads_of c.args.solution.now) c.requires.solved c.edges_join_nodes.ensures,
      no_path c.args.meta.now c.args.scan.now c.requires.scan (rank_of c.args.solution.now) (leads_of c.args.solution.now) c.requires.solved c.edges_join_nodes.ensures none,
      chain,
      chain_bars c.args.meta.now c.edges_join_nodes.ensures c.in-Some-2.nodes chain,
    )

pub returns : goal.returns
returns c =
    let none = rw c.in_default.is at c.in_ok-nodes.ensures in
    let count : length c.nodes.result.now ≡ length (nodes_of c.args.meta.now) = ap (λ (ns : List Node). length ns) (c.nodes.ensures ∙ c.requires.scan.nodes) in
    let above = subst (λ (k : ℕ). (n : ℕ) → n < k → rank_of c.args.solution.now n < c.bound_of-bound.result) count c.bound_of-bound.ensures.above in
    let least = subst (λ (k : ℕ). (c.bound_of-bound.result ≡ 0) ⊎ ((n : ℕ) × (n < k) × (rank_of c.args.solution.now n + 1 ≡ c.bound_of-bound.result))) count c.bound_of-bound.ensures.least in
    let low = rw c.in_default-2.is at c.in_ok-nodes-2.ensures in
    record {
      low = low;
      least = λ lines are.
          made c.args.meta.now c.classes-classes.ensures.sound c.edges_join_nodes.ensures c.args.scan.now c.requires.scan (rank_of c.args.solution.now) (leads_of c.args.solution.now) c.requires.solved c.bound_of-bound.result lines are
          c.requires.ready none above c.bound_of-bound.ensures.most least;
    }
