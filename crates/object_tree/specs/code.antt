-- What the contracts of this crate's functions need besides: how objects and their children are held, and what a tree keeps.
pub mod Adoptions
pub mod Kept
pub mod Slots
