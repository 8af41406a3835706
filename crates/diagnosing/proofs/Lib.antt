pub mod Found
pub mod Trying
mod Reasons
pub mod Told
