pub mod KeyRuns
pub mod NodeFragments
pub mod TurnOrders
pub mod TrieNames
pub mod NodeLists
