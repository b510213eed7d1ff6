pub mod Lists
pub mod Walks
pub mod Changing
pub mod Above
pub mod Errors
pub mod Families
pub mod TypedObjects
pub mod Keeping
mod Types
pub mod Moving
pub mod Descents
pub mod Slots
pub mod GivenUp
pub mod Housed
pub mod Adoptions
