pub mod Levels
pub mod Record
