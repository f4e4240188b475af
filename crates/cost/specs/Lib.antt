pub mod Cost
pub mod Steps
