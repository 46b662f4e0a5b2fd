pub mod Fraction
pub mod Rounding
