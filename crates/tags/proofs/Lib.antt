pub mod Judged
pub mod Kept
