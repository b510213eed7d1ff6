mod Finding
mod Numbering
mod Order
mod Searching
pub mod Walking
mod Drawing
mod Reading
mod Undrawn
mod Seeking
