pub mod Rows
pub mod Taken
pub mod Row
