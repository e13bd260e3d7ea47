pub mod Assembling
pub mod Ranking
pub mod Sectioning
