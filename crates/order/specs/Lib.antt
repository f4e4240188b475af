pub mod Refusals
pub mod Cells
pub mod Order
pub mod Steps
