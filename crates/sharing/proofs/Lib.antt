pub mod Targets
pub mod Loops
pub mod Ones
pub mod Row
pub mod Shown
