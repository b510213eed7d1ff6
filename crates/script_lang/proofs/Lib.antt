pub mod OneTree
pub mod Names
pub mod Events
pub mod Scripts
pub mod OneAnswer
