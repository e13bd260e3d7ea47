pub mod FirstFaults
pub mod SeedTries
