pub mod Untagged
