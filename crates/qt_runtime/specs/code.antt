-- What every machine keeps, which its calls don't show; and what the code that takes events comes to.
pub mod Invariant
pub mod Taking
pub mod Quiet
