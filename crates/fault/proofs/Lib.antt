pub mod Answered
pub mod EveryRule
