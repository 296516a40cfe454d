pub mod Messages
pub mod Reply
