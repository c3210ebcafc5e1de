pub mod Counts
pub mod Quantised
