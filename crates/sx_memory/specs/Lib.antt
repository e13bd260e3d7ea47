pub mod Calls
pub mod Memory
pub mod Entries
pub mod InUse
pub mod Shelves
