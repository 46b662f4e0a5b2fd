pub mod Computes
pub mod Compounding
pub mod Multipliers
pub mod Search
pub mod Theorem
pub mod Examples
