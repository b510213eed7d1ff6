pub mod Cutting
pub mod Skipping
pub mod Telling
pub mod Lines
pub mod Indent
pub mod Laying
