pub mod WordNumbers
pub mod WordFields
pub mod Places
pub mod Padding
pub mod LeadingZeros
