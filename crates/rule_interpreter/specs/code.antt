-- What the contracts of this crate's functions need besides: what the code knows, and what its calls do.
pub mod Remaining
pub mod Active
pub mod Delivering
pub mod Calls
