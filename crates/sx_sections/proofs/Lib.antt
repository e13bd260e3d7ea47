pub mod BlockCounts
pub mod Offered
pub mod Outcomes
pub mod Pages
pub mod Rising
pub mod Signatures
pub mod Walking
