pub mod Bounds
pub mod Lowest
pub mod Made
