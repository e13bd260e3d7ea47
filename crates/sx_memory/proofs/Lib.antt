pub mod Parts
pub mod EntryLaws
