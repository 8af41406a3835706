mod Bits
mod Walks
mod Faults
mod Sounds
mod Seeks
