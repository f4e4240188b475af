pub mod Coordinates
pub mod Conversion
pub mod Sweep
