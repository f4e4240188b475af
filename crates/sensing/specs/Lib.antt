pub mod Sense
pub mod LevelCells
