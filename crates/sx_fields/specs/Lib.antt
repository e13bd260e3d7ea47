pub mod Numbers
pub mod Sections
