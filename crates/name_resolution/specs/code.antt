-- How names are looked up in the outlines of classes, and what the contracts of this crate's functions need besides.
pub mod Bodies
pub mod Natives
pub mod Wires
pub mod Sites
pub mod Loading
pub mod Inherited
pub mod Resolving
