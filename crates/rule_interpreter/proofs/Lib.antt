pub mod Frames
pub mod Beginning
pub mod Writes
pub mod Bodies
pub mod Blocks
pub mod Deleting
pub mod Turning
