-- What the contracts of this crate's functions need besides: how bindings are kept, and orders of evaluation.
pub mod Keys
pub mod Slots
pub mod Lists
pub mod Orders
pub mod Numbering
pub mod Turns
pub mod BindingRanks
pub mod Graph
pub mod Touched
