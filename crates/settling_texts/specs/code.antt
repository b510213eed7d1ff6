-- What the contracts of this crate's functions need besides: what its readers do, step by step.
pub mod Grammar
pub mod Reads
