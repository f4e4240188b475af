pub mod Checks
pub mod Rows
pub mod Runs
pub mod Told
pub mod Row
