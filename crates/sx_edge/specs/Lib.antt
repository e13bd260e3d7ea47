pub mod Parts
pub mod Shelf
pub mod Reading
pub mod Places
pub mod Buffer
pub mod Kept
