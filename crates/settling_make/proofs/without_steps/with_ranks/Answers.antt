use Rattle.std.proofs.Common.{◌≡◌, ℕ, List, length, replicate, refl, sym, ap, ◌∙◌, subst, arith}
use Rattle.std.proofs.lemmas.List.{length-replicate}
use Rattle.effect_scan.specs.declared.node.Node.{Node}
use Rattle.effect_scan.specs.Nodes.{nodes_of}
use Rattle.rank_graph.specs.Solutions.{rank_of, leads_of}
use Rattle.rank_make.specs.Solved.{AreLow}
use Rattle.settling.specs.declared.certificate.SettlingCertificate.{SettlingCertificate}
use Rattle.settling_make.specs.Components.{number_of}
use Rattle.settling_make.specs.Fits.{AreRanksAt}
use Rattle.settling_make.specs.Inside.{AreThemselves}
use Rattle.settling_make.specs.Lines.{AreLinesFor}
use Rattle.settling_make.proofs.Acyclic.{own_at, destroyed_at, made_alone}
use Rattle.settling_make.proofs.without_steps.with_ranks.Goals as goal

pub first_ending-requires-clause-destroyed : goal.first_ending-requires-clause-destroyed
first_ending-requires-clause-destroyed c =
    let nodes : c.nodes-count.result.now ≡ nodes_of c.args.meta.now = c.nodes-count.ensures ∙ c.requires.scan.nodes in
    let low : AreLow (length (nodes_of c.args.meta.now)) (rank_of c.args.solution.now) = subst (λ (ns : List Node). AreLow (length ns) (rank_of c.args.solution.now)) nodes c.in_default.ensures in
    let own : AreThemselves (length c.args.scan.now.nodes) c.in_ok-numbers.numbers = subst (λ (ns : List Node). AreThemselves (length ns) c.in_ok-numbers.numbers) c.nodes-count.ensures c.in_ok-numbers.ensures in
    rw c.as_slice.ensures
    (destroyed_at c.args.meta.now c.edges_join_nodes.ensures c.args.scan.now c.requires.scan (rank_of c.args.solution.now) (leads_of c.args.solution.now) c.requires.solved low c.in_ok-numbers.numbers own)

pub lines_of-requires-clause-steps : goal.lines_of-requires-clause-steps
lines_of-requires-clause-steps c = λ n low.
    let own : AreThemselves (length c.args.scan.now.nodes) c.in_ok-numbers.numbers = subst (λ (ns : List Node). AreThemselves (length ns) c.in_ok-numbers.numbers) c.nodes-count.ensures c.in_ok-numbers.ensures in
    let is = own_at c.in_ok-numbers.numbers (length c.args.scan.now.nodes) own n low in
    let same = ap (λ (l : List ℕ). number_of l n) c.as_slice-2.ensures in
    let steps = ap (λ (l : List ℕ). length l) (c.as_slice-4.ensures ∙ c.in_ok-steps.ensures) ∙ length-replicate {A = ℕ} (length c.nodes-count.result.now) 0 in
    let nodes = ap (λ (ns : List Node). length ns) c.nodes-count.ensures in
    omega (arith, is, same, steps, nodes, low)

pub returns : goal.returns
returns c =
    let nodes : c.nodes-count.result.now ≡ nodes_of c.args.meta.now = c.nodes-count.ensures ∙ c.requires.scan.nodes in
    let low : AreLow (length (nodes_of c.args.meta.now)) (rank_of c.args.solution.now) = subst (λ (ns : List Node). AreLow (length ns) (rank_of c.args.solution.now)) nodes c.in_default.ensures in
    let own : AreThemselves (length c.args.scan.now.nodes) c.in_ok-numbers.numbers = subst (λ (ns : List Node). AreThemselves (length ns) c.in_ok-numbers.numbers) c.nodes-count.ensures c.in_ok-numbers.ensures in
    let count : length c.nodes-count.result.now ≡ length c.args.scan.now.rows = ap (λ (ns : List Node). length ns) nodes ∙ sym c.requires.scan.edges.count in
    let at : AreRanksAt (rank_of c.args.solution.now) (length c.args.scan.now.rows) c.in_ok-ranks.ranks = subst (λ (k : ℕ). AreRanksAt (rank_of c.args.solution.now) k c.in_ok-ranks.ranks) count c.in_ok-ranks.ensures in
    let lines : AreLinesFor c.args.meta.now c.in_ok-numbers.numbers c.in_ok-ranks.ranks (replicate (length c.args.scan.now.nodes) 0) (leads_of c.args.solution.now) c.in_ok-lines.lines =
    rw (c.as_slice-2.ensures, c.as_slice-3.ensures, c.as_slice-4.ensures, c.in_ok-steps.ensures, c.nodes-count.ensures) at c.in_ok-lines.ensures
    in
    let certificate : SettlingCertificate = record { bound = c.just_above.result; step = 0; lines = c.in_ok-lines.lines; sets = c.new.result } in
    made_alone c.args.meta.now c.edges_join_nodes.ensures c.args.scan.now c.requires.scan (rank_of c.args.solution.now) (leads_of c.args.solution.now) c.requires.solved low
    c.in_ok-ranks.ranks at c.in_ok-numbers.numbers own certificate lines (rw c.as_slice-5.ensures at c.just_above.ensures) refl c.new.ensures c.in_default-first_ending.ensures
