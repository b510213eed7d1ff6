-- What the contracts of this crate's functions need besides: what its readers do, step by step.
pub mod Parting
pub mod Keys
