pub mod Rise
pub mod Rivals
pub mod Starred
