use Rattle.std.proofs.Common.{arith, sym, ◌∙◌}
use Rattle.rank_graph.specs.Searching.{state_of}
use Rattle.rank_graph.proofs.Searching.{target_inside, passes_none, passes_more}
use Rattle.rank_graph.proofs.search.past_done.Goals as goal

pub loop-at-init : goal.loop-at-init
loop-at-init c = passes_none c.args.rows.now c.args.states.now c.args.visit

pub get-requires : goal.get-requires
get-requires c =
    let inside = target_inside _ _ _ _ c.targets_at-row.ensures c.requires.inside c.loop-at-test.true in
    omega (arith, inside, c.requires.states)

pub loop-at-preserved : goal.loop-at-preserved
unfolding state_of
loop-at-preserved c = passes_more c.args.rows.now c.args.states.now c.args.visit c.loop-at.at c.targets_at-row.result.now c.in-Done.entry c.over-at.result c.loop-at.invariant c.targets_at-row.ensures c.loop-at-test.true (sym c.get.ensures ∙ c.in-Done.is) c.over-at.ensures.rank c.over-at.ensures.classes

pub returns-in_default : goal.returns-in_default
returns-in_default c = c.loop-at.invariant

pub returns : goal.returns
returns c = c.loop-at.invariant
