pub mod Words
pub mod Tokens
pub mod Lines
pub mod Requests
pub mod Texts
pub mod Turns
pub mod Ready
pub mod Said
