pub mod Room
pub mod Follow
pub mod Course
pub mod Example
pub mod Pulses
pub mod Pieces
