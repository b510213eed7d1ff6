pub mod Counting
pub mod Gathered
pub mod Keyed
pub mod Likely
pub mod Parting
pub mod Tokens
