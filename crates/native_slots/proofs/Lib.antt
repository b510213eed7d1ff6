pub mod Sameness
pub mod Finding
pub mod PlainValues
pub mod Joining
pub mod Asking
pub mod Promising
pub mod OnlyFitting
pub mod Telling
