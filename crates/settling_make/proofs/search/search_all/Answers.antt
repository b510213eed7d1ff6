use Rattle.std.proofs.Common.{refl}
use Rattle.settling_make.proofs.States.{state_read, state_given}
use Rattle.settling_make.proofs.Driving.{come_none, come_visit, come_past}
use Rattle.settling_make.proofs.search.search_all.Goals as goal
use Rattle.settling_make.proofs.search.search_all.Goals.{in-New+in_ok-visit, in_default}

pub loop-root-init : goal.loop-root-init
loop-root-init c = come_none _ _ c.in_ok-new_states.ensures c.new.ensures refl

pub visit-requires-clause-fresh : goal.visit-requires-clause-fresh
visit-requires-clause-fresh c = state_read c.as_slice.result.now c.loop-root.search.states c.loop-root.root _ c.as_slice.ensures c.in-New.is

pub loop-root-preserved : goal.loop-root-preserved
loop-root-preserved c =
    elim c.match-as_slice-root.branch [
      | in-New+in_ok-visit w ↦ rw w.search-is (come_visit _ _ _ _ c.loop-root.invariant w.in_ok-visit.ensures)
      | in_default w ↦
          rw w.search-is (come_past _ _ _ c.loop-root.invariant (λ is. w.in_default.not-New (state_given c.as_slice.result.now c.loop-root.search.states c.loop-root.root _ c.as_slice.ensures is)))
    ]
