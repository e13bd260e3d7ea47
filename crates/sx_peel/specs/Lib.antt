pub mod Peeling
pub mod UnderWay
pub mod Law
