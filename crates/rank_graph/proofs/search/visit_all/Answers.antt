use Rattle.std.proofs.Common.{sym, ◌∙◌, arith}
use Rattle.rank_graph.specs.Searching.{state_of}
use Rattle.rank_graph.proofs.Driving.{all_new, come_visit, come_past}
use Rattle.rank_graph.proofs.search.visit_all.Goals as goal
use Rattle.rank_graph.proofs.search.visit_all.Goals.{in-New+in_ok-visit, in_default}

pub loop-root-init : goal.loop-root-init
loop-root-init c = let f = all_new c.args.rows.now c.args.own.now c.args.states.now c.requires.fresh in (f.0, f.1, c.requires.states, λ a h. absurd (omega arith))

pub visit-requires-clause-fresh : goal.visit-requires-clause-fresh
unfolding state_of
visit-requires-clause-fresh c = sym c.get.ensures ∙ c.in-New.is

pub loop-root-preserved : goal.loop-root-preserved
unfolding state_of
loop-root-preserved c =
    elim c.match-get.branch [
      | in-New+in_ok-visit w ↦ rw w.states-is (come_visit _ _ _ _ _ c.loop-root.invariant w.in_ok-visit.ensures.ok)
      | in_default w ↦ rw w.states-is (come_past _ _ _ _ c.loop-root.invariant (λ is. w.in_default.not-New (c.get.ensures ∙ is)))
    ]
