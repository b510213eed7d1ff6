pub mod Joining
pub mod Evaluating
pub mod Typed
