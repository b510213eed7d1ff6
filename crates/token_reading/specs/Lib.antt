pub mod Reading
pub mod Lists
pub mod Optional
pub mod Literals
pub mod Signatures
pub mod SignatureTexts
pub mod Connections
pub mod code
