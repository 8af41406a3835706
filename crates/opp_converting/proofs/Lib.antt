pub mod Judged
pub mod Resealed
