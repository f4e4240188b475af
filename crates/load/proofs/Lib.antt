pub mod States
pub mod Loads
pub mod Filling
pub mod Row
pub mod Told
pub mod Bench
