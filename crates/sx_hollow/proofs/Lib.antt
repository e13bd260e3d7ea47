pub mod Asking
pub mod Descents
pub mod Gaps
pub mod Rest
pub mod NodeNumbers
pub mod Tops
