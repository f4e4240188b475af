pub mod Signs
pub mod Largest
pub mod Costs
pub mod Pairs
pub mod Loops
pub mod ByRank
pub mod Told
pub mod Bench
