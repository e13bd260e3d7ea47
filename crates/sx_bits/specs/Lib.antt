pub mod Views
pub mod KeyLists
pub mod Pieces
pub mod Cuts
