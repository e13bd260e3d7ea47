pub mod Numbers
pub mod Between
pub mod Ends
pub mod Seats
pub mod Linking
pub mod Left
pub mod Visits
pub mod Deciding
