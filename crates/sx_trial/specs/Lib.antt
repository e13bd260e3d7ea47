pub mod Seeds
pub mod Trials
