mod Claims
mod Itself
mod Lines
mod OneCommand
pub mod OneRun
pub mod Accepted
pub mod Answering
pub mod Preparing
mod Reading
mod Streaming
