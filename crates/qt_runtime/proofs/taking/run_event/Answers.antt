use Rattle.std.proofs.Common.{arith}
use Rattle.qt_runtime.proofs.Taken.{halted-spent, ready, took-quietly}
use Rattle.qt_runtime.proofs.taking.run_event.Goals as goal

pub returns-then-world-eq0 : goal.returns-then-world-eq0
returns-then-world-eq0 g c = record { cases = halted-spent _ c.if-world-eq0.true c.requires.may.idle }

-- ---- the events after which nothing is going on

pub returns-in-Loop : goal.returns-in-Loop
returns-in-Loop g c = rw c.in-Loop.is (took-quietly _ _ c.requires.may.keeps.sound.is.agree (ready (omega (arith, c.if-world-eq0.false)) c.requires.may.idle) c.add_loop.ensures)

pub returns-in-New : goal.returns-in-New
returns-in-New g c = rw c.in-New.is (took-quietly _ _ c.requires.may.keeps.sound.is.agree (ready (omega (arith, c.if-world-eq0.false)) c.requires.may.idle) c.create.ensures)

pub returns-in-Adopt : goal.returns-in-Adopt
returns-in-Adopt g c = rw c.in-Adopt.is (took-quietly _ _ c.requires.may.keeps.sound.is.agree (ready (omega (arith, c.if-world-eq0.false)) c.requires.may.idle) c.adopt.ensures)

pub returns-in-Move : goal.returns-in-Move
returns-in-Move g c = rw c.in-Move.is (took-quietly _ _ c.requires.may.keeps.sound.is.agree (ready (omega (arith, c.if-world-eq0.false)) c.requires.may.idle) c.move_object.ensures)

pub returns-in-Connect : goal.returns-in-Connect
returns-in-Connect g c = rw c.in-Connect.is (took-quietly _ _ c.requires.may.keeps.sound.is.agree (ready (omega (arith, c.if-world-eq0.false)) c.requires.may.idle) c.connect.ensures)

pub returns-in-Disconnect : goal.returns-in-Disconnect
returns-in-Disconnect g c = rw c.in-Disconnect.is (took-quietly _ _ c.requires.may.keeps.sound.is.agree (ready (omega (arith, c.if-world-eq0.false)) c.requires.may.idle) c.disconnect.ensures)

pub returns-in-Block : goal.returns-in-Block
returns-in-Block g c = rw c.in-Block.is (took-quietly _ _ c.requires.may.keeps.sound.is.agree (ready (omega (arith, c.if-world-eq0.false)) c.requires.may.idle) c.block.ensures)

pub returns-in-Unblock : goal.returns-in-Unblock
returns-in-Unblock g c = rw c.in-Unblock.is (took-quietly _ _ c.requires.may.keeps.sound.is.agree (ready (omega (arith, c.if-world-eq0.false)) c.requires.may.idle) c.block-in-Unblock.ensures)

pub returns-in-Later : goal.returns-in-Later
returns-in-Later g c = rw c.in-Later.is (took-quietly _ _ c.requires.may.keeps.sound.is.agree (ready (omega (arith, c.if-world-eq0.false)) c.requires.may.idle) c.later.ensures)
