pub mod Counting
pub mod Known
pub mod Pieces
