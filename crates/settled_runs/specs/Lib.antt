pub mod Writes
pub mod Levels
pub mod Written
pub mod Deaths
pub mod Handed
pub mod Claims
pub mod Machine
