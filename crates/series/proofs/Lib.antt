pub mod Logarithm
pub mod Exponential
