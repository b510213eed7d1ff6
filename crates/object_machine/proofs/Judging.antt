-- Which step of an event's judgement decides.
pub mod Naming
pub mod Reading
pub mod Ends
pub mod Connecting
pub mod Assigning
pub mod Binding
pub mod Invoking
