pub mod Told
pub mod Bytes
pub mod Cut
