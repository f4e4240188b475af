pub mod Turn
pub mod Numbered
pub mod Compared
pub mod LevelCells
