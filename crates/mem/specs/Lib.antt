pub mod Mem
