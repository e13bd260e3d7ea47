pub mod GroupWords
pub mod Ranks
pub mod WordSelect
