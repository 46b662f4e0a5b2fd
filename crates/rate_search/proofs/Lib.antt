pub mod Growing
pub mod Turning
pub mod Confirming
