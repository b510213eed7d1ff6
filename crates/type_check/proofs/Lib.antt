pub mod Firsts
pub mod Properties
pub mod Blocks
mod Judging
pub mod Methods
pub mod Statements
pub mod Ordered
pub mod Values
