pub mod Choices
pub mod Searches
pub mod Zips
pub mod Once
pub mod Prefixes
pub mod Indexing
pub mod Layers
pub mod Marks
