pub mod Parts
pub mod Rankings
pub mod TwoSteps
pub mod Views
