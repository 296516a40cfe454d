pub mod Tables
pub mod Asked
pub mod Pages
pub mod Answers
