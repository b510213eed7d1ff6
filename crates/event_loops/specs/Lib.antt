pub mod Queues
pub mod FaultNumbers
pub mod Numbers
pub mod code
