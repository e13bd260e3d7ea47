pub mod ReplyTexts
pub mod Texts
pub mod FailureLines
