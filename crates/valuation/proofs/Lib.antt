pub mod Checks
pub mod Sums
pub mod Theorem
