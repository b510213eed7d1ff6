use Rattle.qt_runtime.proofs.Taken.{took-not-accepted, ready}
use Rattle.qt_runtime.proofs.events.assign.assign.Goals as goal

pub returns-in-Err : goal.returns-in-Err
returns-in-Err g c = took-not-accepted _ c.refuse.result c.requires.may.keeps.sound.is.agree c.in-Err.ensures.refused (ready c.requires.left c.requires.may.idle) c.refuse.ensures
