pub mod Reading
pub mod Gathering
pub mod Speaking
pub mod Taking
pub mod Responding
