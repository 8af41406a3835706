mod Sought
mod Calls
pub mod Small
