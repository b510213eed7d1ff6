-- What the contracts of this crate's functions need besides: what cutting a text does, step by step.
pub mod Splitting
pub mod Numerals
pub mod Nesting
pub mod Bytes
pub mod Places
pub mod Symbols
