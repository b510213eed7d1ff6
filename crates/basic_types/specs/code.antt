-- What the contracts of this crate's functions need besides: how types are held, and where words are looked for.
pub mod Holding
pub mod Words
