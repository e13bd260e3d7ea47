pub mod Hollowing
pub mod KeyFunctions
pub mod Handling
