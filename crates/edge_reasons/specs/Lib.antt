pub mod Order
pub mod Searches
pub mod Reasons
pub mod code
pub use Rattle.meta_model.specs.Sites
pub use Rattle.effect_scan.specs.Nodes
pub use Rattle.effect_scan.specs.Effects
pub use Rattle.effect_scan.specs.Edges
