pub mod Roomy
pub mod Answers
pub mod Row
