pub mod Histories
pub mod Growths
pub mod Bases
pub mod Looking
pub mod Openings
pub mod Extension
pub mod Sessions
pub mod Numbers
