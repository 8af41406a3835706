pub mod Bodies
pub mod Held
pub mod Typed
pub mod Cash
pub mod AnyKind
mod Puts
mod Written
