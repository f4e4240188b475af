pub mod Written
pub mod Told
