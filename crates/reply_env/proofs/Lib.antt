pub mod Pieces
pub mod Ids
pub mod Memory
pub mod Kept
