-- What the contracts of this crate's functions need besides.
pub mod Trying
pub mod Changing
pub mod Planned
