pub mod Names
pub mod Values
pub mod Paths
pub mod Limits
pub mod Counts
