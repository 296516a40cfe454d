pub mod Notes
pub mod Choosing
pub mod Ending
pub mod Completing
