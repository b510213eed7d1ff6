-- What the contracts of this crate's functions need besides.
pub mod Bodies
pub mod Lines
pub mod Members
pub mod Standings
pub mod ByNumbers
pub mod Spans
