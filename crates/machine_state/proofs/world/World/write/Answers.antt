use Rattle.machine_state.proofs.world.World.write.Goals as goal

pub write_unread-requires-clause-unread : goal.write_unread-requires-clause-unread
write_unread-requires-clause-unread c = c.is_unread.ensures c.if-is_unread.true
