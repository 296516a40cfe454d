pub mod Spot
pub mod Seen
pub mod After
