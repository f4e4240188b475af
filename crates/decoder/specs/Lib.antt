pub mod Decoding
pub mod Nearest
pub mod Steps
