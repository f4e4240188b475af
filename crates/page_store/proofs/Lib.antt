pub mod Pulses
pub mod Storing
pub mod Told
pub mod Row
