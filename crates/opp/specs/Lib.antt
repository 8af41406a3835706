pub mod Opp
pub mod Pass
