pub mod Seats
pub mod Chains
pub mod Linked
