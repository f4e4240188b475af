pub mod Factorials
pub mod Lower
pub mod Placing
pub mod Summing
pub mod Numbering
pub mod Answers
pub mod Told
pub mod Row
