pub mod Lines
pub mod Members
pub mod OneTree
pub mod Certificates
pub mod Nodes
pub mod Written
