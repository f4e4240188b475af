pub mod Cells
pub mod Groups
pub mod Row
