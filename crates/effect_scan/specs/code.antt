-- What the contracts of this crate's functions need besides.
pub mod Adding
pub mod NodePlaces
pub mod Relations
pub mod Leading
pub mod Families
pub mod Holding
