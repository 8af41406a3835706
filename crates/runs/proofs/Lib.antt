mod Grown
pub mod Planned
