use Rattle.std.proofs.Common.{refl}
use Rattle.settling_make.proofs.Collecting.{own_added, own_past}
use Rattle.settling_make.proofs.outer.add_own.Goals as goal

pub returns-in_ok-append-in-Some : goal.returns-in_ok-append-in-Some
returns-in_ok-append-in-Some c = own_added c.args.scan.now c.nodes.result.now c.args.member c.nodes.ensures _ _ _ _ c.in-Some.ensures c.in_ok-own-in-Some.ensures c.in_ok-append-in-Some.ensures

pub returns-in-None : goal.returns-in-None
returns-in-None c = own_past c.args.scan.now c.nodes.result.now c.args.member c.nodes.ensures _ _ c.in-None.ensures refl
