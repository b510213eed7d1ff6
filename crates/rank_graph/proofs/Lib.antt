pub mod Distinct
pub mod Searching
pub mod Driving
pub mod Turning
pub mod Ranking
pub mod Grouping
pub mod Walking
pub mod Sharing
