pub mod Signed
pub mod Bounds
pub mod Remainder
pub mod Division
pub mod Machine
