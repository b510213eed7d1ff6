use Rattle.std.proofs.Common.{◌≡◌, ◌∙◌, ap}
use Rattle.event_loops.specs.declared.item.Item.TheVariants.{Call}
use Rattle.machine_state.specs.declared.world.World.{World}
use Rattle.rule_interpreter.specs.code.Delivering.{IsFirst}
use Rattle.rule_interpreter.proofs.Beginning.{begun-work}
use Rattle.rule_interpreter.proofs.Turning.{taken-work, reaches-served, advances-served, advances-barred, advances-unchanged, called-fits, called-there, called-is, taken-sound, taken-fits}
use Rattle.rule_interpreter.proofs.interpreter.Interpreter.serve_call.Goals as goal

pub unreachable-requires : goal.unreachable-requires
unreachable-requires g c = called-there c.requires.first c.in_default.ensures

pub unreachable-requires-in_default-item : goal.unreachable-requires-in_default-item
unreachable-requires-in_default-item g c = called-is c.requires.first (record { posted = c.in-Some.first.now; found = c.in-Some.ensures; is = c.in_default-item.is })

pub activate-requires : goal.activate-requires
activate-requires g c = record { fit = rw c.as_slice.ensures (called-fits c.requires.first c.requires.sound (record { posted = c.in-Some.first.now; found = c.in-Some.ensures; is = c.in-Call.is })) }

pub returns-in_err-line : goal.returns-in_err-line
returns-in_err-line g c = advances-barred c.from_residual.result c.requires.goes_on c.requires.room c.requires.left c.in_err-line.ensures.err c.from_residual.ensures.1

pub returns-in_err-given : goal.returns-in_err-given
returns-in_err-given g c = advances-unchanged c.from_residual-in_err-given.result c.requires.goes_on c.requires.left c.in_err-given.ensures c.from_residual-in_err-given.ensures.1

pub run_callee-requires-clause-sound : goal.run_callee-requires-clause-sound
run_callee-requires-clause-sound g c = taken-sound c.args.world.now _ _ _ c.in_ok-given.ensures.0 c.requires.sound

pub run_callee-requires-clause-fit : goal.run_callee-requires-clause-fit
run_callee-requires-clause-fit g c =
    let first : IsFirst c.args.world.now c.args.turn (Call c.in-Call.object c.in-Call.method c.in-Call.arguments) = record { posted = c.in-Some.first.now; found = c.in-Some.ensures; is = c.in-Call.is } in
    let given : c.as_slice-2.result.now ≡ c.in-Call.arguments = c.as_slice-2.ensures ∙ c.in_ok-given.ensures.1 _ _ _ first in
    rw given (taken-fits c.args.world.now _ _ _ c.in_ok-given.ensures.0 (called-fits c.requires.first c.requires.sound first))

pub run_callee-requires-clause-work : goal.run_callee-requires-clause-work
run_callee-requires-clause-work g c = taken-work c.args.world.now _ _ _ c.in_ok-given.ensures.0 (begun-work c.in_ok-line.ensures.ok)

pub returns : goal.returns
returns g c =
    let first : IsFirst c.args.world.now c.args.turn (Call c.in-Call.object c.in-Call.method c.in-Call.arguments) = record { posted = c.in-Some.first.now; found = c.in-Some.ensures; is = c.in-Call.is } in
    let given : c.as_slice-2.result.now ≡ c.in-Call.arguments = c.as_slice-2.ensures ∙ c.in_ok-given.ensures.1 _ _ _ first in
    let begun = rw c.as_slice.ensures at c.in_ok-line.ensures.ok in
    let ends = rw given at c.run_callee.ensures.ends in
    let less = ap (λ (u : World). u.left) c.in_ok-given.ensures.0 in
    let went = reaches-served c.requires.goes_on first begun (called-fits c.requires.first c.requires.sound first) c.requires.sound.is.agree c.requires.left c.in_ok-given.ensures.0 in
    advances-served c.run_callee.result c.nothing.ensures went less c.requires.left ends
