pub mod Told
pub mod Row
pub mod Answers
pub mod Holds
pub mod Scrubs
