pub mod Text
pub mod Scan
pub mod Whole
