pub mod Cuts
pub mod Repairs
pub mod Again
pub mod Refuted
pub mod Bench
