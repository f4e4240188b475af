pub mod Line
pub mod Puts
