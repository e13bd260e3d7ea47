pub mod HighBits
pub mod Delimiters
pub mod Stands
pub mod ExitWalk
pub mod Entries
pub mod OpenRanges
pub mod KeyNumbers
pub mod NameBounds
