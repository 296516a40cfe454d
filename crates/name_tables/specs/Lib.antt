pub mod Code
pub mod Names
pub mod Tables
