pub mod Stepping
pub mod Raising
pub mod Years
