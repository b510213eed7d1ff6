-- What the contracts of this crate's functions need besides.
pub mod NearMembers
pub mod OwnMembers
pub mod ReadTypes
