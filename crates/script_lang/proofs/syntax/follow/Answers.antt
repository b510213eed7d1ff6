use Rattle.script_lang.proofs.syntax.follow.Goals as goal

pub returns-in-Loop : goal.returns-in-Loop
returns-in-Loop c = rw c.in-Loop.is c.add_loop.ensures

pub returns-in-Turn : goal.returns-in-Turn
returns-in-Turn c = rw c.in-Turn.is c.turn.ensures

pub returns-in-New : goal.returns-in-New
returns-in-New c = rw c.in-New.is c.new.ensures

pub returns-in-Adopt : goal.returns-in-Adopt
returns-in-Adopt c = rw c.in-Adopt.is c.adopt.ensures

pub returns-in-Move : goal.returns-in-Move
returns-in-Move c = rw c.in-Move.is c.move_object.ensures

pub returns-in-Connect : goal.returns-in-Connect
returns-in-Connect c = rw c.in-Connect.is c.connect.ensures

pub returns-in-Disconnect : goal.returns-in-Disconnect
returns-in-Disconnect c = rw c.in-Disconnect.is c.disconnect.ensures

pub returns-in-Set : goal.returns-in-Set
returns-in-Set c = rw c.in-Set.is c.set.ensures

pub returns-in-Emit : goal.returns-in-Emit
returns-in-Emit c = rw c.in-Emit.is c.emit.ensures

pub returns-in-Call : goal.returns-in-Call
returns-in-Call c = rw c.in-Call.is c.call.ensures

pub returns-in-Bind : goal.returns-in-Bind
returns-in-Bind c = rw c.in-Bind.is c.bind.ensures

pub returns-in-Block : goal.returns-in-Block
returns-in-Block c = rw c.in-Block.is c.block.ensures

pub returns-in-Unblock : goal.returns-in-Unblock
returns-in-Unblock c = rw c.in-Unblock.is c.unblock.ensures

pub returns-in-Delete : goal.returns-in-Delete
returns-in-Delete c = rw c.in-Delete.is c.delete.ensures

pub returns-in-Later : goal.returns-in-Later
returns-in-Later c = rw c.in-Later.is c.later.ensures
