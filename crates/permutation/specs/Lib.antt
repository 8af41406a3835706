pub mod Permutation
pub mod Undo
pub mod Order
pub mod Way
