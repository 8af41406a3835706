pub mod Sequence
pub mod Word
pub mod Block
pub mod Undo
