use Rattle.qt_runtime.proofs.quiet.binding.accept_write.Goals as goal

pub accept_unread-requires-clause-unread : goal.accept_unread-requires-clause-unread
accept_unread-requires-clause-unread c = c.is_unread.ensures c.if-is_unread.true
