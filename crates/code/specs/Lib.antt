pub mod Words
pub mod Symbols
pub mod Tails
pub mod Table
pub mod Steps
