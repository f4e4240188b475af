pub mod Groups
pub mod Pages
