pub mod Text
pub mod Pieces
