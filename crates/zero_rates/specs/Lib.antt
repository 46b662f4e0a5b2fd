pub mod Rates
pub mod Meaning
