pub mod Events
pub mod Lines
pub mod Statements
pub mod Words
pub mod Shown
pub mod LaidOut
