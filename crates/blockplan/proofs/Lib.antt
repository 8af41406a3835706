pub mod Leftovers
pub mod Sums
pub mod Ciphered
pub mod Passes
pub mod Summing
pub mod Tags
pub mod Compared
pub mod Parcels
