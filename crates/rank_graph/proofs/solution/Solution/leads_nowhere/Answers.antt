use Rattle.std.proofs.Common.{◌+◌, ◌*◌, refl, sym, ◌∙◌, arith}
use Rattle.rank_graph.specs.declared.bits.TheConstants.{SIZE}
use Rattle.rank_graph.proofs.Walking.{leads_in_group, leads_in_none}
use Rattle.rank_graph.proofs.solution.Solution.leads_nowhere.Goals as goal

pub returns-then-not-is_none_in : goal.returns-then-not-is_none_in
returns-then-not-is_none_in c = (
  λ t. absurd (cc),
  λ all.
      let none = c.is_none_in.ensures.1 (λ k low. sym (leads_in_group c.args.self.now c.args.node c.loop-group.group k low) ∙ all (SIZE * c.loop-group.group + k)) in
      let off = c.if-not-is_none_in.true in cc,
)

pub returns : goal.returns
returns c = (λ t. leads_in_none c.args.self.now c.args.node c.loop-group.group (omega (arith, c.loop-group-test.false)) c.loop-group.invariant, λ all. refl)
