pub mod Search
pub mod Ranges
pub mod Quotes
pub mod Retyped
pub mod Theorem
