pub mod Numbers
mod Links
pub mod Chains
pub mod Counts
pub mod Form
pub mod Walks
pub mod Faults
pub mod FirstFault
pub mod Along
pub mod Cells
pub mod Puts
mod Written
mod CellBytes
pub mod Filled
pub mod Emptied
pub mod Fresh
