-- What the contracts of this crate's functions need besides.
pub mod Finds
pub mod Seeks
