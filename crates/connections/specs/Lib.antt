pub mod Connected
pub mod FaultNumbers
pub mod code
