pub mod Printed
pub mod Refusals
pub mod Rules
