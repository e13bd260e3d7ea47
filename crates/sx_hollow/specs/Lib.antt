pub mod Dist
pub mod Tops
pub mod Views
pub mod Walks
