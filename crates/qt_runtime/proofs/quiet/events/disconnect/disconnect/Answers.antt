use Rattle.std.proofs.Common.{[], refl}
use Rattle.machine_state.specs.Accepting.{accepted}
use Rattle.machine_state.specs.Worlds.{at, without_connections}
use Rattle.qt_runtime.proofs.QuietWorlds.{quietly-done, quietly-unchanged, quietly-not-accepted}
use Rattle.qt_runtime.proofs.quiet.events.disconnect.disconnect.Goals as goal

pub returns-in-Err : goal.returns-in-Err
returns-in-Err c = quietly-not-accepted _ c.refuse.result c.in-Err.ensures.refused c.refuse.ensures

pub returns-in_err-accept_disconnection-in-Ok : goal.returns-in_err-accept_disconnection-in-Ok
returns-in_err-accept_disconnection-in-Ok c = quietly-unchanged _ _ c.in_err-accept_disconnection-in-Ok.ensures c.from_residual.ensures.1

pub returns-in_ok-accept_disconnection-in-Ok : goal.returns-in_ok-accept_disconnection-in-Ok
returns-in_ok-accept_disconnection-in-Ok c =
    quietly-done (without_connections (accepted (at c.args.world.now [])) c.in-Ok.ends) _ c.in-Ok.ensures.accepted refl c.requires.keeps.sound.is.agree c.requires.idle c.in_ok-accept_disconnection-in-Ok.ensures
