pub mod Book
pub mod Conserved
