pub mod Mro
pub mod Streams
