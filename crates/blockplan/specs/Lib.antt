pub mod Plan
pub mod Parcel
pub mod Lawful
pub mod Pass
pub mod Compare
