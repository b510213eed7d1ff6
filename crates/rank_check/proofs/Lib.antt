pub mod Elements
pub mod Named
pub mod Placing
pub mod Listing
pub mod Assembled
pub mod Breaking
pub mod Conditions
