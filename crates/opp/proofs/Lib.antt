pub mod Passes
pub mod Opened
