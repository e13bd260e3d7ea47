pub mod Solving
pub mod Rows
pub mod Law
pub mod Lazy
