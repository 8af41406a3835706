pub mod Writing
pub mod Scanning
pub mod Whole
