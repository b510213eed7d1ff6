-- What the contracts of this crate's functions need besides: what is found before a method begins, and what calls do.
pub mod Activating
pub mod Posting
pub mod Statements
pub mod Scope
pub mod Coded
