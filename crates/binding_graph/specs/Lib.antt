pub mod Places
pub mod Bindings
pub mod Laws
pub mod code
