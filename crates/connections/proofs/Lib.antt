pub mod Counts
pub mod Added
pub mod Numbers
pub mod Stale
pub mod Lost
pub mod Asked
pub mod Standing
