pub mod Levels
pub mod LevelRows
pub mod TopBit
pub mod Tallies
pub mod Checks
pub mod Groups
pub mod Told
