pub mod Ratios
pub mod Exact
pub mod RoundedDown
pub mod Products
pub mod OneNearest
pub mod FarOut
pub mod Steps
