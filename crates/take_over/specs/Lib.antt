pub mod TakeOver
pub mod Rows
