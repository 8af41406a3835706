pub mod Checks
pub mod Requests
