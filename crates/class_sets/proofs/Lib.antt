pub mod Firsts
pub mod Marking
pub mod Words
