pub mod Scheduling
pub mod Ending
pub mod FaultNumbers
pub mod Moving
pub mod Laws
pub use Rattle.object_tree.specs.Typed
pub use Rattle.event_loops.specs.Queues
pub use Rattle.connections.specs.Connected
