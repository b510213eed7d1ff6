pub mod Expectations
