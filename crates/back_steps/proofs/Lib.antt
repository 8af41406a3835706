pub mod Chosen
pub mod Solving
pub mod BackAlpha
pub mod Undoing
pub mod Laws
