pub mod NamePlaces
pub mod Places
pub mod CallPlaces
pub mod Twice
pub mod LookUps
pub mod code
pub use Rattle.basic_types.specs.Name
