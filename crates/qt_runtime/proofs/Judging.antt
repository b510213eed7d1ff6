-- Which step of an event's judgement decides, one file an event.
pub mod Binding
pub mod Deleting
pub mod Turning
