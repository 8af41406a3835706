pub mod Laws
pub mod Masking
pub mod Moved
