-- What the contracts of this crate's functions need besides: how queues are held, which of their items wait, and how many.
pub mod Rings
pub mod Marks
pub mod Kept
pub mod Counts
pub mod Sure
