-- What the contracts of this crate's functions need besides.
pub mod Outlined
pub mod OwnTypes
