-- The numbers of refusals: 42 where there is no such loop, 43 where the loop is there already.
use Rattle.std.specs.Prelude.{ℕ, Option, None, Some}
use Rattle.event_loops.specs.declared.fault.AddFault.{AddFault}
use Rattle.event_loops.specs.declared.fault.AddFault.TheVariants as add
use Rattle.event_loops.specs.declared.fault.PostFault.{PostFault}
use Rattle.event_loops.specs.declared.fault.PostFault.TheVariants as post

abbrev pub add_number : AddFault → Option ℕ
add_number add.Exists = Some 43
add_number add.Memory = None

abbrev pub post_number : PostFault → Option ℕ
post_number post.NoLoop = Some 42
post_number post.Memory = None
