pub mod Sale
pub mod AnyKind
