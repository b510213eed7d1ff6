pub mod InitialValues
pub mod LackedNames
pub mod code
pub use Rattle.class_outlines.specs.Notifiers
pub use Rattle.class_outlines.specs.Ends
pub use Rattle.meta_model.specs.Literals
pub use Rattle.name_indexes.specs.LookUps
