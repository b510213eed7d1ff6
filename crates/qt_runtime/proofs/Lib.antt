pub mod Checking
pub mod Prefixes
mod Halting
mod Taken
mod Pushed
mod Judging
mod Keeping
mod Stopping
pub mod Bound
pub mod QuietWorlds
mod QuietJudging
