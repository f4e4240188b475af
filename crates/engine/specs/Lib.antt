pub mod ReadStore
pub mod Scrub
