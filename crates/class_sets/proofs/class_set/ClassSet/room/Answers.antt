use Rattle.class_sets.proofs.Words.{room_is}
use Rattle.class_sets.proofs.class_set.ClassSet.room.Goals as goal

pub returns : goal.returns
returns c = room_is _ _ _ c.self.view_is
