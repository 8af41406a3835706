pub mod Order
pub mod Walked
pub mod Demand3
pub mod Demand2
pub mod Conversion
pub mod Engines
pub mod TrueReason
pub mod ForC
