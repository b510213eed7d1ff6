pub mod Judged
pub mod EventLines
pub mod Refused
