pub mod FailureTexts
pub mod Reasons
