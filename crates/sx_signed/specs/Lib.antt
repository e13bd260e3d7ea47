pub mod Keeping
pub mod Lookup
