pub mod Grouping
pub mod Heading
pub mod SignatureWords
