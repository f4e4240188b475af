pub mod Groups
pub mod Pages
pub mod Told
pub mod Row
