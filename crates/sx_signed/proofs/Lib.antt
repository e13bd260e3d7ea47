pub mod KeptNumbers
pub mod Lookups
