pub mod Answered
pub mod BuiltOpens
pub mod MadeLines
pub mod Tries
