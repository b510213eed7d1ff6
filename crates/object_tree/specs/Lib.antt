pub mod Children
pub mod Objects
pub mod Held
pub mod Seen
pub mod Family
pub mod Typed
pub mod Creating
pub mod Adopting
pub mod Forest
pub mod Moving
pub mod code
pub use Rattle.name_indexes.specs.NamePlaces
pub use Rattle.meta_model.specs.Typed as MetaObjectsTyped
