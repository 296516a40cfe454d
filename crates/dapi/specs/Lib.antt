pub mod Words
pub mod Chosen
pub mod Note
pub mod Ended
pub mod Top
pub mod Complete
