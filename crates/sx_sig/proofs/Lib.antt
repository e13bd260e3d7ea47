pub mod ChunkBits
pub mod DigestWords
pub mod EqualPairs
pub mod Groups
pub mod Messages
