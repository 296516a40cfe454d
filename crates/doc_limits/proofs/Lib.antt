pub mod Named
pub mod Dollars
pub mod Counted
pub mod Totals
