pub mod RankNumbers
pub mod Ranking
pub mod InverseArray
pub mod Determine
pub mod Row
pub mod Told
