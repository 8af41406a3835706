pub mod Judged
pub mod Streams
