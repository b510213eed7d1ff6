mod Handing
mod Ways
mod Rounds
mod Alike
mod Levels
mod Following
mod Lining
mod Entering
pub mod Ordering
mod Fitting
mod Tallying
mod OfNodes
mod RoundsOfNodes
mod Assembling
pub mod Passing
