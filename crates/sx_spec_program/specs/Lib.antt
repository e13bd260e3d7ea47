pub mod Offer
pub mod Program
pub mod Examples
