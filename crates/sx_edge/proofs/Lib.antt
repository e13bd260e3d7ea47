pub mod Writing
pub mod Files
pub mod Betweens
pub mod Feeds
pub mod Fills
pub mod Readies
pub mod LineLaws
