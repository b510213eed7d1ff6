pub mod Closed
pub mod Unique
pub mod Reading
pub mod OneAnswer
pub mod Spelling
