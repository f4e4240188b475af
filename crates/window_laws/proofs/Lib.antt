pub mod Digits
pub mod Numbers
pub mod Compared
pub mod LevelCells
pub mod Turning
pub mod Handed
pub mod Bench
