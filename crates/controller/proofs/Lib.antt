pub mod Bars
pub mod Padding
pub mod Generators
pub mod Posing
pub mod Histories
pub mod Standing
