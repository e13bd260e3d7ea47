pub mod CodePairs
pub mod Corrections
pub mod HandleMaps
pub mod HollowDumps
pub mod HollowDistDumps
pub mod Lcp2Dumps
pub mod LcpDumps
pub mod ZfastDumps
