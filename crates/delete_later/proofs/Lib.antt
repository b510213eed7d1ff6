pub mod Scheduled
pub mod Forgotten
pub mod Moving
pub use Rattle.prop_bindings.proofs.Agreeing
