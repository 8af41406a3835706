pub mod Tables
pub mod BackSteps
