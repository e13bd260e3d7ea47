pub mod Maps
pub mod Corrected
pub mod Views
pub mod Memo
pub mod Largest
