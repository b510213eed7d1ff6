pub mod Counts
pub mod Laws
pub mod Values
pub mod Changes
pub mod Fits
pub mod Calls
pub mod Plans
pub mod FaultNumbers
pub mod code
pub use Rattle.binding_graph.specs.Places
pub use Rattle.binding_graph.specs.Bindings
pub use Rattle.binding_graph.specs.Laws as BindingGraphLaws
