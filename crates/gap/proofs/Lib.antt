pub mod Trials
pub mod Testing
pub mod Halving
