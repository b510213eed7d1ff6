pub mod Sending
pub mod Described
pub mod Inputs
pub mod Partings
pub mod Saying
