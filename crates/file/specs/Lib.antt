pub mod Entered
pub mod File
pub mod Layout
pub mod Places
pub mod Tables
