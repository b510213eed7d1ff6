-- What the contracts of this crate's functions need besides: what the code finds as it judges an event.
pub mod Judgement
pub mod Accepted
