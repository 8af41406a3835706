pub mod Store
pub mod Named
