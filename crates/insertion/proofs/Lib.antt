pub mod Ranging
pub mod Insert
pub mod Build
