-- What the contracts of this crate's functions need besides: what its readers do, step by step.
pub mod Cursor
pub mod Reading
pub mod Lists
pub mod Optional
pub mod Numerals
pub mod Literals
pub mod Signatures
pub mod Connections
