pub mod Lines
pub mod Places
pub mod Groups
pub mod Undone
mod Apart
pub mod Ordered
