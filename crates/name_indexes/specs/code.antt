-- What the contracts of this crate's functions need besides.
pub mod CallSteps
pub mod Marks
pub mod Twins
