pub mod Demand2
pub mod Demand3
pub mod Conversion
pub mod Engines
pub mod TrueReason
pub mod ForC
