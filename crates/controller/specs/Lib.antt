pub mod Logbook
pub mod Problems
pub mod Law
pub mod Book
pub mod View
