pub mod Grammar
pub mod Reads
pub mod Texts
pub mod Written
pub mod code
pub use Rattle.token_reading.specs.Lists
pub use Rattle.token_reading.specs.code.Reading
