pub mod Literals
pub mod Connections
pub mod Trees
