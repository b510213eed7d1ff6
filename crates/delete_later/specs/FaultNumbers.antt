-- The numbers of refusals: 42 where there is no such loop, 48 where the object has a parent, 49 where a binding would join
-- objects of two loops.
use Rattle.std.specs.Prelude.{ℕ, Option, None, Some}
use Rattle.event_loops.specs.declared.fault.PostFault.{PostFault}
use Rattle.event_loops.specs.declared.fault.PostFault.TheVariants as post
use Rattle.delete_later.specs.declared.fault.MoveFault.{MoveFault}
use Rattle.delete_later.specs.declared.fault.MoveFault.TheVariants as move

abbrev pub move_number : MoveFault → Option ℕ
move_number move.NoLoop = Some 42
move_number move.HasParent = Some 48
move_number move.Bound = Some 49
move_number move.Memory = None

abbrev pub fault_of : PostFault → MoveFault
fault_of post.NoLoop = move.NoLoop
fault_of post.Memory = move.Memory
