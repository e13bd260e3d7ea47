mod Replies
mod Runs
mod CommonPrefixes
mod BlockParts
pub mod Costing
pub mod Placing
pub mod Ranks
