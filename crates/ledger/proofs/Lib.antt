mod Sales
mod Sound
mod Kept
pub mod Conserved
