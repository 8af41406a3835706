pub mod Absorbed
pub mod Streams
pub mod Opened
