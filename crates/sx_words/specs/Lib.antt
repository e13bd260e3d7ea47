pub mod Tasks
pub mod Commands
pub mod Parsers
pub mod Arguments
pub mod Rules
