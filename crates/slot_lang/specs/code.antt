-- What the contracts of this crate's functions need besides: what its readers do, step by step.
pub mod Levels
pub mod Precedence
pub mod Expressions
pub mod Grammar
pub mod Faults
