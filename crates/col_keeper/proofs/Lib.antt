pub mod Asking
pub mod ShortIds
