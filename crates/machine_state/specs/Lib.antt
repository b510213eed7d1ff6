pub mod State
pub mod Turns
pub mod Connections
pub mod Accepting
pub mod Worlds
pub mod code
pub use Rattle.object_tree.specs.Adopting
pub use Rattle.object_tree.specs.Creating
pub use Rattle.object_tree.specs.Objects as ObjectTreeObjects
pub use Rattle.prop_bindings.specs.Fits
pub use Rattle.event_loops.specs.Queues
pub use Rattle.delete_later.specs.Moving
pub use Rattle.delete_later.specs.Scheduling
pub mod Objects
pub mod Telling
