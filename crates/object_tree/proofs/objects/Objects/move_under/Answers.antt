use Rattle.object_tree.proofs.Housed.{may-leave}
use Rattle.object_tree.proofs.objects.Objects.move_under.Goals as goal

pub leave-requires : goal.leave-requires
leave-requires c =
    may-leave c.args.self.now c.join.new.self c.args.parent c.args.child c.parent-from.result c.requires.forest c.in_ok-adoption.ensures.ok c.parent-from.ensures c.requires.elsewhere
