pub mod Ring
pub mod Calls
pub mod Steps
