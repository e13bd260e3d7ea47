pub mod Tries
pub mod Ranges
