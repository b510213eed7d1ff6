use Rattle.std.proofs.Common.{◌≡◌, ◌++◌}
use Rattle.std.proofs.lemmas.Result.{IfOk-weaker}
use Rattle.effect_scan.specs.Effects.{Gathers}
use Rattle.effect_scan.specs.code.NodePlaces.{IsReached, OfSome}
use Rattle.effect_scan.specs.code.Leading.{WorkReaches}
use Rattle.effect_scan.proofs.Gathering.{gathers_found}
use Rattle.effect_scan.proofs.Joined.{work_reaches}
use Rattle.effect_scan.proofs.edges.add_work.Goals as goal

pub returns : goal.returns
returns c =
    let P = OfSome (IsReached c.args.places.now c.args.class) c.as_slice-2.result.now in
    let Q = WorkReaches c.args.places.now c.args.class c.args.method.now in
    IfOk-weaker c.add_all.result (λ _. c.add_all.new.self ≡ c.args.numbers.now ++ c.as_slice-3.result.now) (λ _. Gathers Q c.args.numbers.now c.add_all.new.self)
    (λ x e.
    gathers_found P Q _ _ _ _ _
    (work_reaches c.args.places.now c.args.class c.args.method.now _ _ _ c.as_slice.ensures c.as_slice-2.ensures c.in_ok-effects.ensures) c.new-found.ensures c.in_ok-add_all_reached.ensures c.as_slice-3.ensures e)
    c.add_all.ensures
