pub mod Passing
pub mod Folds
pub mod Table
pub mod Walks
pub mod Readiness
pub mod Written
pub mod Asking
