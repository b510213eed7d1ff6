pub mod Operators
pub mod Evaluation
pub mod Typing
