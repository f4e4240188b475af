pub mod Sensed
pub mod Settling
pub mod Written
pub mod LevelCells
