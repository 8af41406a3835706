pub mod Clears
pub mod Runs
mod Listed
mod Found
