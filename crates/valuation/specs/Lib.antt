pub mod Block
pub mod Meaning
