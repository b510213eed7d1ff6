pub mod Placed
pub mod Barred
pub mod Numbers
pub mod Listed
pub mod Lined
pub mod Steps
pub mod Told
pub mod Unranked
