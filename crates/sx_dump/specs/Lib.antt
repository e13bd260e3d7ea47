pub mod Opening
pub mod Replying
pub mod Rooms
pub mod Showing
pub mod Viewing
