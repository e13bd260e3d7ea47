pub mod Answer
pub mod FunctionSections
pub mod Solving
pub mod Tries
pub mod Chunks
pub mod Viewing
pub mod Both
pub mod Reading
