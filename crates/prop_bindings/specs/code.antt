-- What the contracts of this crate's functions need besides: the parts of a write and a bind, and how values are kept.
pub mod Parts
pub mod Holding
