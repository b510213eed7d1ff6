-- What the contracts of this crate's functions need besides: what its readers do, step by step.
pub mod Reading
pub mod Scanning
