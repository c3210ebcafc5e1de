pub mod Sums
pub mod Equations
pub mod Inputs
pub mod Solved
