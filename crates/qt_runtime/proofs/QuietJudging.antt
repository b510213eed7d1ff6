-- Which step of an event's judgement decides, one file an event.
pub mod Looping
pub mod Creating
pub mod Adopting
pub mod Moving
pub mod Blocking
pub mod Deferring
