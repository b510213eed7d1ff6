use Rattle.std.proofs.Common.{List, ℕ, get_or, refl, arith, subst}
use Rattle.std.specs.List.{Contains}
use Rattle.std.proofs.lemmas.List.Elements.{Contains-get_or}
use Rattle.settling_make.proofs.Circling.{to_more, to_all}
use Rattle.settling_make.proofs.unsettled.unsettled_at.Goals as goal

pub loop-target-init : goal.loop-target-init
loop-target-init c = λ b held. absurd (omega (arith, held.1))

pub unsettled_edge-requires-clause-edge : goal.unsettled_edge-requires-clause-edge
unsettled_edge-requires-clause-edge c =
    let items = c.targets-target-items.result.now in
    subst (λ (l : List ℕ). Contains l (get_or items c.loop-target.target-index 0)) c.targets-target-items.ensures (Contains-get_or items c.loop-target.target-index 0 c.loop-target-test.true)

pub loop-target-preserved : goal.loop-target-preserved
loop-target-preserved c =
    to_more c.args.meta.now c.args.scan.now.rows c.args.found.now.numbers c.args.number c.args.node c.targets-target-items.result.now c.loop-target.target-index _ c.loop-target-test.true refl c.loop-target.invariant c.in-None.ensures

pub returns : goal.returns
returns c =
    to_all c.args.meta.now c.args.scan.now.rows c.args.found.now.numbers c.args.number c.args.node c.targets-target-items.result.now c.loop-target.target-index c.targets-target-items.ensures (omega arith) c.loop-target.invariant
