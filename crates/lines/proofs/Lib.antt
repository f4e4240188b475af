pub mod Paste
pub mod Decimal
pub mod Commas
pub mod InRoom
pub mod Adds
