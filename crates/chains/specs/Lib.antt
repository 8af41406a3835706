pub mod Marks
pub mod Sound
pub mod Found
